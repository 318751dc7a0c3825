-- `set_up` keeps the record sound.
use Rattle.record.specs.Sound.{Sound}
use Rattle.laps.proofs.set_up.Given as goal

abbrev pub invariant-loop : goal.invariant-loop
invariant-loop g l = Sound l.state
