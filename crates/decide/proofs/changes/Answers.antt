-- `changes` goes by the decision.
use Rattle.std.proofs.Common.{refl}
use Rattle.decide.proofs.Untouched.{rest_changes}
use Rattle.decide.proofs.changes.Goals as goal

pub returns-in-Refuse : goal.returns-in-Refuse
returns-in-Refuse c = rw c.in-Refuse.is refl

pub returns-in-Say : goal.returns-in-Say
returns-in-Say c = rw c.in-Say.is refl

pub returns-in_default : goal.returns-in_default
returns-in_default c = rest_changes c.args.decision c.in_default.not-Refuse c.in_default.not-Say
