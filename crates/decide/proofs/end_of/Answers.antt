-- `end_of` adds the tmout and the one tick more to the counter, and wraps: by the sign of the tmout.
use Rattle.std.proofs.Common.{refl, to_z-of_z}
use Rattle.decide.proofs.Tmout.{ends_never, ends_at}
use Rattle.decide.proofs.end_of.Goals as goal

pub returns-then-tmout-lt0 : goal.returns-then-tmout-lt0
returns-then-tmout-lt0 c = ends_never _ c.args.tmout (rw (to_z-of_z c.ranges.tmout) at c.if-tmout-lt0.true)

pub returns : goal.returns
returns c =
    let fits = c.ranges.tmout in
    rw (to_z-of_z fits) (ends_at _ _ c.args.tmout (rw (to_z-of_z fits) at c.if-tmout-lt0.false) refl)
