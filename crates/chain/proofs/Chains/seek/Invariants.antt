-- `seek` stops behind the last key that the limit passes. The invariant: keys passed and keys still to be passed make the place.
use lib.ListN.{length}
use Rattle.chain.specs.Table.{follow}
use Rattle.chain.proofs.Walks.{Seeking}
use Rattle.chain.proofs.Chains.seek.Given as goal

abbrev pub invariant-loop-next : goal.invariant-loop-next
invariant-loop-next l = Seeking l.numbers l.head l.limit l.self.link l.self.key l.at l.place l.next

abbrev pub decreases-loop-next : goal.decreases-loop-next
decreases-loop-next l = length (follow l.numbers l.self.link l.at)
