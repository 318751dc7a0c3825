-- Document 01, "Error numbers and their order": the codes, and what an answer is.
use Rattle.std.specs.Prelude.{Bool, false, ◌||◌, ℕ, eqb, ℤ, pos, neg_ℤ, nat_abs}
use mathlib.Core.List.{List, [], ◌∷◌, Memᴰ as In}
use Rattle.rows.specs.Program.{return}
use Rattle.model.specs.Rows.{Effect}
use Rattle.model.specs.declared.Answer.{Answer}
use Rattle.model.specs.declared.Outcome.{Outcome}
use Rattle.model.specs.declared.Outcome.TheVariants.{Finished, Waits}
pub use Rattle.model.specs.declared.Code.{Code}
pub use Rattle.model.specs.declared.Code.TheVariants.{Ok as E_OK, Sys as E_SYS, Par as E_PAR, Id as E_ID, Ctx as E_CTX, Iluse as E_ILUSE, Obj as E_OBJ}
pub use Rattle.model.specs.declared.Code.TheVariants.{Noexs as E_NOEXS, Qovr as E_QOVR, Rlwai as E_RLWAI, Tmout as E_TMOUT, Dlt as E_DLT}

abbrev pub minus : ℕ → ℤ
minus n = neg_ℤ (pos n)

-- The number of each code.
abbrev pub number : Code → ℤ
number E_OK = pos 0
number E_SYS = minus 5
number E_PAR = minus 17
number E_ID = minus 18
number E_CTX = minus 25
number E_ILUSE = minus 28
number E_OBJ = minus 41
number E_NOEXS = minus 42
number E_QOVR = minus 43
number E_RLWAI = minus 49
number E_TMOUT = minus 50
number E_DLT = minus 51

-- Document 01's codes in the order in which it names them: those of its table of errors, E_OK, and the other ends of a wait.
abbrev pub code_table : List (Code × ℤ)
code_table =
    (E_PAR, minus 17)
    ∷ (E_SYS, minus 5)
    ∷ (E_CTX, minus 25)
    ∷ (E_ID, minus 18)
    ∷ (E_NOEXS, minus 42)
    ∷ (E_OBJ, minus 41)
    ∷ (E_QOVR, minus 43)
    ∷ (E_ILUSE, minus 28)
    ∷ (E_TMOUT, minus 50)
    ∷ (E_OK, pos 0)
    ∷ (E_RLWAI, minus 49)
    ∷ (E_DLT, minus 51)
    ∷ []

-- Every code stands there with its number.
abbrev pub CodesNumbered : Type 0
CodesNumbered = (code : Code) → In (code, number code) code_table

-- The code is one of these. Codes are compared by their numbers, of which no two are the same but for the sign.
abbrev pub code_in : Code → List Code → Bool
code_in code [] = false
code_in code (x ∷ xs) = eqb (nat_abs (number code)) (nat_abs (number x)) || code_in code xs

-- An answer is finished, kind 0, with a code, or waits, kind 1, with a place (document 02, item 3 has the kinds' numbers).
abbrev pub kind : Outcome → ℕ
kind (Finished code) = 0
kind (Waits place) = 1

abbrev pub code_or_place : Outcome → ℤ
code_or_place (Finished code) = number code
code_or_place (Waits place) = pos place

-- An answer in document 01's numbers.
pub record Values : Type 0 where
  pub kind : ℕ
  pub code_or_place : ℤ
  pub a : ℕ
  pub b : ℕ
  pub c : ℕ

abbrev pub values : Answer → Values
values x = record { kind = kind x.outcome; code_or_place = code_or_place x.outcome; a = x.a; b = x.b; c = x.c }

abbrev pub finished : Code → ℕ → ℕ → ℕ → Answer
finished code a b c = record { outcome = Finished code; a = a; b = b; c = c }

-- The same in document 01's numbers.
abbrev pub finished_values : Code → ℕ → ℕ → ℕ → Values
finished_values code a b c = record { kind = 0; code_or_place = number code; a = a; b = b; c = c }

abbrev pub waits : ℕ → Answer
waits place = record { outcome = Waits place; a = 0; b = 0; c = 0 }

-- The answers that end an effect: E_OK with no words, E_OK with the word a, and a refusal, which has no words.
abbrev pub done : Effect
done = return (finished E_OK 0 0 0)

abbrev pub gives : ℕ → Effect
gives a = return (finished E_OK a 0 0)

abbrev pub refuse : Code → Effect
refuse code = return (finished code 0 0 0)

-- Where a poll would have to wait: step 7 of the error table has refused the call before it comes here.
abbrev pub refused_at_step_7 : Effect
refused_at_step_7 = refuse E_TMOUT
