-- `rewrite_all` writes the tasks' numbers one after the other.
use Rattle.host_tasks.proofs.Rewriting.{SoFar}
use Rattle.host_tasks.specs.declared.HostTask.{HostTask}
use Rattle.host_tasks.proofs.rewrite_all.Given as goal

abbrev pub outside : HostTask
outside = record { word = 0; end = 0; sending = 0; wait = 0; object = 0; timed = 0; code = 0; flags = 0 }

abbrev pub invariant-loop-n : goal.invariant-loop-n
invariant-loop-n l = SoFar outside l.initial.numbers l.tasks l.numbers l.n
