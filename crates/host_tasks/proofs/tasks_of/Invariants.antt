-- `tasks_of` makes the tasks that the numbers stand for: its loop fills the array with them.
use Rattle.host_tasks.specs.Tasks.{read_task}
use Rattle.host_tasks.proofs.Filling.{Filled}
use Rattle.host_tasks.proofs.tasks_of.Given as goal

abbrev pub invariant-loop-t : goal.invariant-loop-t
invariant-loop-t l = Filled read_task 33 l.numbers l.t l.tasks
