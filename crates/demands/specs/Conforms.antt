-- Demand 2: each call and tick gives the code, result words, queues and task states that document 01 fixes. What it fixes is the definition `step` (crate
-- model, Step.antt); what a record means is `abs` of its engine.
use Rattle.std.specs.Prelude.{◌≡◌, not, List, ◌∷◌, T}
use Rattle.lists.specs.Lists.{Each}
use Rattle.model.specs.Calls.{is_tick, fetches}
use Rattle.model.specs.Codes.{values}
use Rattle.model.specs.Errors.{ErrorRow, error_table}
use Rattle.model.specs.Step.{step}
use Rattle.model.specs.Refusals.{NoError}
use Rattle.model.specs.Engine.{Engine, FinishedWith, RefusedWith, Stepped}
use Rattle.model.specs.declared.Answer.{Answer}
use Rattle.model.specs.declared.Call.{Call}
use Rattle.demands.specs.Handled.{view_in}

-- The row's condition holds, and no earlier check refuses.
pub data FirstToApply (row : ErrorRow) : List ErrorRow → Type 0 where
  applies : {rows : List ErrorRow} → T row.applies → FirstToApply row (row ∷ rows)
  earlier_passed : {earlier : ErrorRow} {rows : List ErrorRow} → T (not earlier.applies) → FirstToApply row rows → FirstToApply row (earlier ∷ rows)

-- The table of errors, for this call on a sound record.
abbrev pub errors : {S : Type 0} → Engine S → S → Call → List ErrorRow
errors E s c = error_table (view_in E s c) c

-- The sound record s with the call c gave `after` and the answer. Number 0 is the tick, which the table leaves alone; number 23 is fetch.
pub record ConformsSo {S : Type 0} (E : Engine S) (s : S) (c : Call) (after : S) (answer : Answer) : Type 0 where
  -- The answer, in document 01's numbers too, and the state with its ended waits are those of the definition.
  pub answer_is : answer ≡ (step (E.abs s) c).answer
  pub values_are : values answer ≡ values (step (E.abs s) c).answer
  pub state_is : E.abs after ≡ (step (E.abs s) c).state
  -- An error is given exactly when its condition holds and no earlier check refuses. Then:
  pub error : T (not (is_tick c)) → (row : ErrorRow) → FirstToApply row (errors E s c) → RefusedWith row.code s after answer
  -- And else not: where no row applies, the answer is E_OK, or waits.
  pub no_error : T (not (is_tick c)) → T (not (fetches c)) → Each (λ row. T (not row.applies)) (errors E s c) → NoError answer.outcome
  -- Where no row applies, fetch gives the code and the word that the named task's wait ended with, which is no refusal.
  pub fetched : T (fetches c) → Each (λ row. T (not row.applies)) (errors E s c)
      → FinishedWith answer (view_in E s c).the_task.code (view_in E s c).the_task.word 0 0

abbrev pub Conforms : {S : Type 0} → Engine S → Type 0
Conforms {S} E = (s : S) → E.Sound s → (c : Call) (after : S) (answer : Answer) → Stepped E s c after answer → ConformsSo E s c after answer

-- Nothing else is left open: equal states, with the same call, give the same answer, in document 01's numbers too, and equal states.
abbrev pub Settled : {S : Type 0} → Engine S → Type 0
Settled {S} E =
    (s s' : S) → E.Sound s → E.Sound s' → E.Same s s'
    → (c : Call) (after after' : S) (answer answer' : Answer) → Stepped E s c after answer → Stepped E s' c after' answer'
    → (answer ≡ answer') × (values answer ≡ values answer') × E.Same after after'
