-- A call through the entry leaves a sound record sound.
use Rattle.std.proofs.Common.{rules}
use Rattle.kernel.proofs.Outcomes.{stays_sound}
use Rattle.laps.proofs.set_up.Goals as goal

pub loop-preserved : goal.loop-preserved
loop-preserved c = search (rules, stays_sound)
