-- Demand 1's and 2's refusals, over the definition: a refusal needs its row, changes nothing and has no words; without one there is no error.
use Rattle.std.specs.Prelude.{◌≡◌, not, T}
use Rattle.model.specs.Rows.{Model}
use Rattle.model.specs.Codes.{E_OK, finished}
use Rattle.model.specs.Calls.{Call, is_tick, fetches, view_of}
use Rattle.model.specs.Errors.{refused, refusal}
use Rattle.model.specs.Step.{step}
use Rattle.model.specs.declared.Outcome.{Outcome}
use Rattle.model.specs.declared.Outcome.TheVariants.{Finished, Waits}

-- E_OK, or waits.
abbrev pub NoError : Outcome → Type 0
NoError (Finished code) = code ≡ E_OK
NoError (Waits place) = Unit

pub record RefusedByTable (m : Model) (c : Call) : Type 0 where
  -- Where a row applies, the answer is the first such row's code with no words, and the state is the same.
  pub by_row : T (refused (view_of m c) c) → step m c ≡ record { state = m; answer = finished (refusal (view_of m c) c) 0 0 0 }
  -- Where none does, the answer is no error. (fetch's code is that of the wait that ended.)
  pub else_no_error : T (not (refused (view_of m c) c)) → T (not (fetches c)) → NoError (step m c).answer.outcome

abbrev pub Refusals : Type 0
Refusals = (m : Model) (c : Call) → T (not (is_tick c)) → RefusedByTable m c
