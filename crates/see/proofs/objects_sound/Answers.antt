-- `objects_sound` is exact: by the tests of the data queue and of the mailbox.
use mathlib.Core.Path.{ap}
use mathlib.Core.Bool.{not}
use Rattle.lists.specs.Tests.{fails}
use Rattle.lists.proofs.Tests.{is_map, stopped, went_on}
use Rattle.see.proofs.objects_sound.Goals as goal

pub returns-then-not-queue_sound : goal.returns-then-not-queue_sound
returns-then-not-queue_sound c = fails (λ S. stopped c.queue_sound.ensures (ap not c.if-not-queue_sound.true) S.0)

pub returns : goal.returns
returns c = is_map (λ m. (went_on c.queue_sound.ensures (ap not c.if-not-queue_sound.false), m)) (λ S. S.1) c.mailbox_sound.ensures
