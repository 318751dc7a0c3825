-- `stored` writes each field.
use mathlib.Core.Path.{refl}
use Rattle.host_replay.specs.Replay.{stored}
use Rattle.host_replay.proofs.stored.Goals as goal

pub returns : goal.returns
unfolding stored
returns c = rw c.restored.ensures refl
