-- `restored` is the record with the state's parts and its tasks' numbers.
use mathlib.Core.Path.{refl}
use Rattle.host_record.specs.Written.{restored}
use Rattle.host_record.proofs.restored.Goals as goal

pub returns : goal.returns
unfolding restored
returns c = rw c.rewrite_all.ensures refl
