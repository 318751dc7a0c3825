-- `chain_of` returns the chain that has the number. The invariant: no chain passed has it.
use native.Mathlib.Omega.{arith}
use Rattle.chain.proofs.Changes.{walk_from_head}
use Rattle.chain.proofs.Search.{not_below_more, next_chain, searched_here, searched_all, standing}
use Rattle.chain.proofs.Chains.chain_of.Goals as goal

pub find-spot-requires : goal.find-spot-requires
find-spot-requires c = walk_from_head (next_chain c.requires.0 c.loop-chain.invariant c.loop-chain-test.true)

pub returns-then-self-at : goal.returns-then-self-at
returns-then-self-at c =
    standing c.requires.0 (searched_here (next_chain c.requires.0 c.loop-chain.invariant c.loop-chain-test.true) c.find-spot.ensures c.requires.1 c.if-self-at.true)

pub loop-chain-preserved : goal.loop-chain-preserved
loop-chain-preserved c =
    let b = c.loop-chain.invariant in
    not_below_more (next_chain c.requires.0 b c.loop-chain-test.true) c.find-spot.ensures c.if-self-at.false b

pub returns : goal.returns
returns c = standing c.requires.0 (searched_all c.requires.0 c.loop-chain.invariant c.loop-chain-test.false)

pub returns-else-self-at : goal.returns-else-self-at
returns-else-self-at c =
    let b = c.loop-chain.invariant in
    standing c.requires.0 (searched_all c.requires.0 (not_below_more (next_chain c.requires.0 b c.loop-chain-test.true) c.find-spot.ensures c.if-self-at.false b) (omega arith))
