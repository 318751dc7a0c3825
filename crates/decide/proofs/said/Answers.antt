-- `said` goes by the decision; any but the two that change nothing is out of question.
use Rattle.std.proofs.Common.{refl}
use Rattle.rows.specs.Program.{run}
use Rattle.decide.specs.Decisions.{ran}
use Rattle.decide.proofs.Untouched.{rest_changes}
use Rattle.decide.proofs.said.Goals as goal

pub returns-in-Refuse : goal.returns-in-Refuse
unfolding ran run
returns-in-Refuse c n m = rw c.in-Refuse.is refl

pub returns-in-Say : goal.returns-in-Say
unfolding ran run
returns-in-Say c n m = rw c.in-Say.is refl

pub returns-in_default : goal.returns-in_default
returns-in_default c n m = absurd (rw (← rest_changes c.args.decision c.in_default.not-Refuse c.in_default.not-Say) at n)
