-- Demand 2: what the contract says, with the table's refusals of the definition carried over to records.
use mathlib.Core.Path.{◌≡◌, refl, sym, ◌∙◌, ap, subst}
use mathlib.Core.Bool.{Bool, true, false, not}
use mathlib.Core.List.{List}
use lib.Dec.{T}
use Rattle.lists.specs.Lists.{Each, none, both}
use Rattle.model.specs.Codes.{values}
use Rattle.model.specs.Errors.{ErrorRow, some_applies, first_that_applies, refused, refusal}
use Rattle.model.specs.Step.{step}
use Rattle.model.specs.Engine.{Engine, Lawful, RefusedWith}
use Rattle.model.proofs.Tests.{or_left, or_right}
use Rattle.model.proofs.StoredPair.{fetch_answers}
use Rattle.model.proofs.Choices.{cond_yes, cond_no}
use Rattle.record.specs.Step.{state_engine}
use Rattle.record.proofs.Equal.{state_lawful}
use Rattle.demands.specs.Conforms.{FirstToApply, applies, earlier_passed, Conforms, Settled}
use Rattle.demands.proofs.Runs.{follows}
use Rattle.demands.proofs.Handled.{refused_step, no_error}

-- The first row to apply gives the code; where none applies there is no refusal.
first_applies : {row : ErrorRow} {rows : List ErrorRow} → FirstToApply row rows → T (some_applies rows) × (first_that_applies rows ≡ row.code)
unfolding some_applies first_that_applies
first_applies {row} (applies {rows = rows} t) = (or_left row.applies (some_applies rows) t, cond_yes row.applies _ _ t)
first_applies (earlier_passed {earlier = earlier} {rows = rows} n f) = let k = first_applies f in (or_right earlier.applies (some_applies rows) k.0, cond_no earlier.applies _ _ n ∙ k.1)

none_applies : {rows : List ErrorRow} → Each (λ row. T (not row.applies)) rows → T (not (some_applies rows))
unfolding some_applies
none_applies none = tt
none_applies (both {x = row} n e) = rw (unless row.applies n) (none_applies e)
  where
    unless : (b : Bool) → T (not b) → b ≡ false
    unless true t = absurd t
    unless false t = refl

pub conforms : {S : Type 0} (E : Engine S) → Conforms E
unfolding refused refusal
conforms E s sound c after answer h =
    let f = follows h sound in
    record {
      answer_is = f.answer_is;
      values_are = f.values_are;
      state_is = f.meaning_is;
      error = λ low row first. let k = first_applies first in subst (λ code. RefusedWith code s after answer) k.1 (refused_step h sound low k.0);
      no_error = λ low other e. no_error h sound low other (none_applies e);
      fetched = λ e n. let given = f.answer_is ∙ fetch_answers (E.abs s) c e (none_applies n) in record { answer_is = given; values_are = ap values given };
    }

pub settled : {S : Type 0} {E : Engine S} → Lawful E → Settled E
settled {E = E} lawful s s' sound sound' same c after after' answer answer' h h' =
    let f = follows h sound in
    let f' = follows h' sound' in
    let m = (lawful.equal_states s s' sound sound').0 same in
    let given : answer ≡ answer' = f.answer_is ∙ (ap (λ x. (step x c).answer) m ∙ sym f'.answer_is) in (
      given,
      ap values given,
      (lawful.equal_states after after' f.sound f'.sound).1 (f.meaning_is ∙ (ap (λ x. (step x c).state) m ∙ sym f'.meaning_is)),
    )

pub states_conform : Conforms state_engine
states_conform = conforms state_engine

pub states_settled : Settled state_engine
states_settled = settled state_lawful
