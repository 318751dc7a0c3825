-- `Kernel::step` applies the judgement.
use Rattle.kernel.proofs.Outcomes.{stepped}
use Rattle.kernel.proofs.Kernel.step.Goals as goal

pub apply-requires : goal.apply-requires
apply-requires c = c.judge-decision.ensures.appliable

pub returns : goal.returns
returns c = stepped c.apply.ensures c.judge-decision.ensures
