-- `task_sets` takes one task after the other, from the last one on.
use Rattle.host_record.proofs.Sets.{SoFar}
use Rattle.host_record.proofs.task_sets.Given as goal

abbrev pub invariant-loop-t : goal.invariant-loop-t
invariant-loop-t l = SoFar l.lent.tasks l.t l.waiting l.runnable
