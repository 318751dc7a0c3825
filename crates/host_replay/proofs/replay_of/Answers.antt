-- `replay_of` reads each field.
use mathlib.Core.Path.{refl}
use Rattle.host_replay.specs.Replay.{replay_of}
use Rattle.host_replay.proofs.replay_of.Goals as goal

pub returns : goal.returns
unfolding replay_of
returns c = rw c.state_of.ensures refl
