-- `counted` goes by whether the record differs.
use mathlib.Core.Path.{refl}
use native.Mathlib.Numerals.{unary_clauses}
use Rattle.recording.specs.Blocks.{counted}
use Rattle.replays.proofs.Tally.counted.Goals as goal

pub returns-then-not-differs : goal.returns-then-not-differs
unfolding counted
returns-then-not-differs c = rw (c.if-not-differs.true) (simp unary_clauses refl)

pub returns : goal.returns
unfolding counted
returns c =
    rw (c.first_of.ensures, c.if-not-differs.false) (simp unary_clauses refl)
