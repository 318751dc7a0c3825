-- `chains_sound` is exact: by the tests of the two tables.
use mathlib.Core.Bool.{not}
use mathlib.Core.Path.{ap, sym, subst}
use lib.Dec.{T}
use Rattle.lists.specs.Tests.{fails}
use Rattle.lists.proofs.Tests.{is_map, stopped, went_on}
use Rattle.see.proofs.chains_sound.Goals as goal

pub returns-then-not-sound : goal.returns-then-not-sound
returns-then-not-sound c = record { exact = fails (λ S. stopped c.sound.ensures.exact (ap not c.if-not-sound.true) S.0); standing_is = λ e. absurd (subst T (sym e) tt) }

pub returns : goal.returns
returns c = record {
  exact = is_map (λ m. (went_on c.sound.ensures.exact (ap not c.if-not-sound.false), m)) (λ S. S.1) c.sound-2.ensures.exact;
  standing_is = λ e. c.sound.ensures.standing_is (c.if-not-sound.false);
}
