-- `end_all` ends the waits from the head on. The loop keeps what has been done and what is left; the chain gets shorter.
use lib.ListN.{length}
use Rattle.waits.specs.Waiting.{chain_list}
use Rattle.waits.proofs.Clearing.{Clearing}
use Rattle.waits.proofs.end_all.Given as goal

abbrev pub invariant-loop-state : goal.invariant-loop-state
invariant-loop-state l = Clearing l.chain l.initial.state l.state

abbrev pub decreases-loop-state : goal.decreases-loop-state
decreases-loop-state l = length (chain_list l.state l.chain)
