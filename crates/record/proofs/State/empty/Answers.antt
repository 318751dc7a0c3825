-- `State::empty` defines nothing, and its chains are new.
use mathlib.Core.Path.{refl}
use Rattle.record.proofs.Empty.{Blank, blank_means, blank_sound}
use Rattle.record.proofs.State.empty.Goals as goal

pub returns : goal.returns
returns c =
    let ring = c.new.ensures in
    let blank : Blank _ _ = record { counter = refl; tasks = refl; waiting = c.new-2.ensures; queues = refl; mailboxes = refl; messages = c.new-3.ensures } in
    (blank_sound _ _ ring blank, blank_means _ _ ring blank)
