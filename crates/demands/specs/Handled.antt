-- Demand 1: any record, with any call or tick, is handled to the end. What a record that isn't sound gets, what a caller that can't call gets, what every other
-- refusal is.
use Rattle.std.specs.Prelude.{◌≡◌, Bool, not, [], ◌∷◌, ◌≢◌, ◌<◌, ◌≤◌, T, length}
use Rattle.model.specs.Sizes.{call_limit}
use Rattle.model.specs.Codes.{code_in}
use Rattle.model.specs.Calls.{is_tick, fetches, View, view_of}
use Rattle.model.specs.Errors.{caller_cannot_call, refused, refusal}
use Rattle.model.specs.Endings.{ended_waits}
use Rattle.model.specs.Engine.{Engine, FinishedWith, RefusedWith, Stepped}
use Rattle.model.specs.declared.Answer.{Answer}
use Rattle.model.specs.declared.Code.{Code}
use Rattle.model.specs.declared.Code.TheVariants.{Ok as E_OK, Sys as E_SYS, Par as E_PAR, Id as E_ID, Ctx as E_CTX, Iluse as E_ILUSE, Obj as E_OBJ}
use Rattle.model.specs.declared.Code.TheVariants.{Noexs as E_NOEXS, Qovr as E_QOVR, Tmout as E_TMOUT}
use Rattle.model.specs.declared.Call.{Call}
use Rattle.model.specs.declared.Outcome.TheVariants.{Finished}

-- Document 01's errors: the codes in its table of error numbers.
abbrev pub is_error : Code → Bool
is_error code = code_in code (E_PAR ∷ E_SYS ∷ E_CTX ∷ E_ID ∷ E_NOEXS ∷ E_OBJ ∷ E_QOVR ∷ E_ILUSE ∷ E_TMOUT ∷ [])

-- What the call has in view in this record.
abbrev pub view_in : {S : Type 0} → Engine S → S → Call → View
view_in E s c = view_of (E.abs s) c

-- The record s with the call c gave `after` and the answer. (That every step ends, and does nothing undefined on its way, the checker proves of every
-- function.)
pub record HandledSo {S : Type 0} (E : Engine S) (s : S) (c : Call) (after : S) (answer : Answer) : Type 0 where
  -- A number above 23 is unknown, whatever the record is.
  pub unknown_number : call_limit < c.number → RefusedWith E_PAR s after answer
  -- Where the number is known, a record that isn't sound gets E_SYS; with the tick too.
  pub not_sound : c.number ≤ call_limit → (E.Sound s → ⊥) → RefusedWith E_SYS s after answer
  -- So does a caller that can't call. The tick, number 0, has no caller.
  pub cannot_call : E.Sound s → T (not (is_tick c)) → c.number ≤ call_limit → T (caller_cannot_call (view_in E s c).caller c)
      → RefusedWith E_SYS s after answer
  -- A call to which a row of the table applies is refused with the code of the first such row, which is one of document 01's errors.
  pub refused_by_row : E.Sound s → T (not (is_tick c)) → T (refused (view_in E s c) c)
      → RefusedWith (refusal (view_in E s c) c) s after answer × T (is_error (refusal (view_in E s c) c))
  -- There is no other refusal: whatever answers a code but E_OK is refused so. Only fetch, number 23, can answer a code that isn't its own but that of an
  -- ended wait.
  pub no_other_refusal : E.Sound s → T (not (fetches c)) → (code : Code) → answer.outcome ≡ Finished code → code ≢ E_OK
      → RefusedWith code s after answer × T (is_error code)
  -- The tick is never refused: E_OK, and a is how many waits ended in it.
  pub tick_accepted : E.Sound s → T (is_tick c) → FinishedWith answer E_OK (length (ended_waits (E.abs s).rows (E.abs after).rows)) 0 0
  -- What is handed back can be handed in again.
  pub stays_sound : E.Sound s → E.Sound after

abbrev pub Handled : {S : Type 0} → Engine S → Type 0
Handled {S} E = (s : S) (c : Call) (after : S) (answer : Answer) → Stepped E s c after answer → HandledSo E s c after answer
