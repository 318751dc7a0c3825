-- `find` stops ahead of the number, or at the end. The invariant: numbers passed and numbers still ahead of it make the place.
use lib.ListN.{length}
use Rattle.chain.specs.Table.{follow}
use Rattle.chain.proofs.Walks.{Finding}
use Rattle.chain.proofs.Chains.find.Given as goal

abbrev pub invariant-loop-next : goal.invariant-loop-next
invariant-loop-next l = Finding l.numbers l.head l.number l.self.link l.at l.place l.next

abbrev pub decreases-loop-next : goal.decreases-loop-next
decreases-loop-next l = length (follow l.numbers l.self.link l.at)
