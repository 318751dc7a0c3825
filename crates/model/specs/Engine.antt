-- What a step of a record promises, whatever kind of record it is. Document 01 fixes each call by the states before and after it, so all that is used of a
-- record is what it means and when it is sound. A kind of record with these is an engine (our own word).
use Rattle.std.specs.Prelude.{◌≡◌, not, ◌↔◌, ℕ, ◌<◌, ◌≤◌, T}
use Rattle.rows.specs.Program as Program
use Rattle.rows.specs.Program.{run}
use Rattle.model.specs.Sizes.{call_limit}
use Rattle.model.specs.Rows.{same_key, Row, Model, Effect}
use Rattle.model.specs.Codes.{Code, E_PAR, E_SYS, values, finished, finished_values}
use Rattle.model.specs.Calls.{Call, is_tick, view_of}
use Rattle.model.specs.Errors.{refused}
use Rattle.model.specs.Step.{step}
use Rattle.model.specs.WellFormed.{WellFormed}
use Rattle.model.specs.declared.Answer.{Answer}

pub record Engine (S : Type 0) : Type 1 where
  -- What a record means (`abs` stands for abstraction).
  pub abs : S → Model
  -- Rows can be read from the record.
  pub Readable : S → Type 0
  -- Document 01, "A sound record"; and there, when two records are equal states.
  pub Sound : S → Type 0
  pub Same : S → S → Type 0

-- What the demands' theorems use of an engine: a sound record means a well-formed state, and two sound records are equal states exactly when they mean
-- the same.
pub record Lawful {S : Type 0} (E : Engine S) : Type 0 where
  pub well_formed : (s : S) → E.Sound s → WellFormed (E.abs s)
  pub equal_states : (s u : S) → E.Sound s → E.Sound u → E.Same s u ↔ (E.abs s ≡ E.abs u)

-- ── One call that is not refused ──

-- The record s became `after`, which means these rows. What calls only read, the counter, is as it was, and rows can be read from the new record.
pub record Becomes {S : Type 0} (E : Engine S) (s : S) (m : Program.Rows Row) (after : S) : Type 0 where
  pub rows_are : (E.abs after).rows ≡ m
  pub environment_is : (E.abs after).environment ≡ (E.abs s).environment
  pub readable : E.Readable after

-- The step hands back what the program leaves, and answers what it returns.
pub record Does {S : Type 0} (E : Engine S) (p : Effect) (s after : S) (answer : Answer) : Type 0 where
  pub becomes : Becomes E s (run same_key p (E.abs s).rows).state after
  pub answer_is : answer ≡ (run same_key p (E.abs s).rows).answer

-- ── Any record, with any call or tick ──

-- The answer is finished with this code and these words, in document 01's numbers too.
pub record FinishedWith (answer : Answer) (code : Code) (a b c : ℕ) : Type 0 where
  pub answer_is : answer ≡ finished code a b c
  pub values_are : values answer ≡ finished_values code a b c

-- The call is refused: the very record, and this code with no words.
pub record RefusedWith {S : Type 0} (code : Code) (s after : S) (answer : Answer) : Type 0 where
  pub state_is : after ≡ s
  pub finished_with : FinishedWith answer code 0 0 0

-- Answer and state are the definition's, the answer in document 01's numbers too, and the new record is sound. A refused call hands back the very record.
-- What else the new record holds is free; each engine names it where its record's meaning is.
pub record Follows {S : Type 0} (E : Engine S) (s : S) (c : Call) (after : S) (answer : Answer) : Type 0 where
  pub answer_is : answer ≡ (step (E.abs s) c).answer
  pub values_are : values answer ≡ values (step (E.abs s) c).answer
  pub meaning_is : E.abs after ≡ (step (E.abs s) c).state
  pub sound : E.Sound after
  pub unchanged : T (not (is_tick c)) → T (refused (view_of (E.abs s) c) c) → after ≡ s

-- A step of any record, sound or not, with any call, of whatever number; number 0 is the tick. It found the record as s, handed it back or left it as `after`,
-- and gave the answer.
pub record Stepped {S : Type 0} (E : Engine S) (s : S) (c : Call) (after : S) (answer : Answer) : Type 0 where
  pub unknown : call_limit < c.number → RefusedWith E_PAR s after answer
  pub unsound : c.number ≤ call_limit → (E.Sound s → ⊥) → RefusedWith E_SYS s after answer
  pub sound : c.number ≤ call_limit → E.Sound s → Follows E s c after answer

-- The same with the call and the answer written otherwise, as in numbers alone: `call_of` says which call is meant, `answer_of` how an answer is written.
pub record SteppedAs {S C A : Type 0} (E : Engine S) (call_of : C → Call) (answer_of : Answer → A) (s : S) (c : C) (after : S) (given : A) : Type 0 where
  pub answer : Answer
  pub stepped : Stepped E s (call_of c) after answer
  pub given_is : given ≡ answer_of answer
