-- `state_of` reads the tasks and takes the other parts as they are.
use mathlib.Core.Path.{refl}
use Rattle.host_record.specs.Record.{state_of}
use Rattle.host_record.proofs.state_of.Goals as goal

pub returns : goal.returns
unfolding state_of
returns c = rw c.tasks_of.ensures refl
