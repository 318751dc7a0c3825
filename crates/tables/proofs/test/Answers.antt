-- `test` goes by the state, then by the two lengths.
use mathlib.Core.Path.{refl, sym, subst, ap}
use mathlib.Core.Bool.{not}
use lib.Dec.{T}
use Rattle.lists.specs.Tests.{holds, fails}
use Rattle.lists.proofs.Tests.{stopped, went_on}
use Rattle.model.specs.Tables.{table_outside}
use Rattle.tables.proofs.test.Goals as goal

pub returns-then-not-sound : goal.returns-then-not-sound
returns-then-not-sound c =
    let not_sound = stopped c.sound.ensures (ap not c.if-not-sound.true) in
    record { unsound = λ f. refl; outside = λ S t. absurd (not_sound S); otherwise = λ S t. absurd (not_sound S); runs_is = fails (λ p. not_sound p.0) }

pub returns-then-outside : goal.returns-then-outside
unfolding table_outside
returns-then-outside c =
    let S = went_on c.sound.ensures (ap not c.if-not-sound.false) in
    let fits = subst (λ b. T (not b)) c.if-outside.true in
    record { unsound = λ f. absurd (f S); outside = λ _ t. refl; otherwise = λ _ t. absurd (fits t); runs_is = fails (λ p. fits p.1) }

pub returns : goal.returns
unfolding table_outside
returns c =
    let S = went_on c.sound.ensures (ap not c.if-not-sound.false) in
    record { unsound = λ f. absurd (f S); outside = λ _ t. absurd (subst T c.if-outside.false t); otherwise = λ _ t. refl; runs_is = holds (S, subst (λ b. T (not b)) (sym c.if-outside.false) tt) }
