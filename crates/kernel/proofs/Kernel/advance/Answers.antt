-- `Kernel::advance` applies the judgement of a sound record.
use Rattle.kernel.proofs.Outcomes.{stepped}
use Rattle.kernel.proofs.Kernel.advance.Goals as goal

pub judge_sound-decision-requires : goal.judge_sound-decision-requires
judge_sound-decision-requires c = c.requires

pub apply-requires : goal.apply-requires
apply-requires c = c.judge_sound-decision.ensures.appliable

pub returns : goal.returns
returns c = stepped c.apply.ensures c.judge_sound-decision.ensures
