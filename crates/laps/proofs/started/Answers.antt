-- `started` hands back a record that passed the test, or the empty one.
use mathlib.Core.Path.{ap}
use mathlib.Core.Bool.{not}
use Rattle.lists.proofs.Tests.{went_on}
use Rattle.laps.proofs.started.Goals as goal

pub returns-then-sound : goal.returns-then-sound
returns-then-sound c = went_on c.sound.ensures (ap not c.if-sound.true)
