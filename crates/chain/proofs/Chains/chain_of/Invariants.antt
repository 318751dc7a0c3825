-- `chain_of` returns the chain that has the number. The invariant: no chain passed has it.
use Rattle.chain.proofs.Search.{NotBelow}
use Rattle.chain.proofs.Chains.chain_of.Given as goal

abbrev pub invariant-loop-chain : goal.invariant-loop-chain
invariant-loop-chain l = NotBelow l.size.numbers l.size.chains l.chain l.number l.self.link
