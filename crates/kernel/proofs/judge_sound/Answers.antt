-- `judge_sound` decides on what is seen of a sound record.
use Rattle.kernel.proofs.Outcomes.{sound_judged}
use Rattle.kernel.proofs.judge_sound.Goals as goal

pub returns : goal.returns
returns c = sound_judged c.requires (c.decide.ensures _ c.view-seen.ensures)
