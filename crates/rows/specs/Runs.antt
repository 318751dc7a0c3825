-- A list of calls, each made on the state that the call before it left.
use Rattle.std.specs.Prelude.{List, [], ◌∷◌}
use Rattle.rows.specs.Program.{Result}

module _ {S R A : Type 0} (step : S → R → Result S A) where
  -- The state that the list leaves.
  unfoldable pub end : S → List R → S
  end s [] = s
  end s (r ∷ rs) = end (step s r).state rs

  -- The answers, in order.
  unfoldable pub answers : S → List R → List A
  answers s [] = []
  answers s (r ∷ rs) = (step s r).answer ∷ answers (step s r).state rs

-- Antt can't name a step of the code, only its contract; so what is said of every run whose steps keep the contract holds of the code's.
-- `Steps s c after answer` is the contract of one call: it found the record as s, handed it back or left it as `after`, and gave the answer.
-- `Run Steps s calls last answers`: the first call gets the record s, each later one the record that the call before it handed back or left; that of the last
-- call is `last`.
pub data Run {S C A : Type 0} (Steps : S → C → S → A → Type 0) : S → List C → S → List A → Type 0 where
  no_call : {s : S} → Run Steps s [] s []
  one_call : {s after last : S} {c : C} {answer : A} {calls : List C} {answers : List A}
      → Steps s c after answer → Run Steps after calls last answers → Run Steps s (c ∷ calls) last (answer ∷ answers)

-- Calls made in a row, with nothing between them, as one step: the state that they leave, and all their answers.
unfoldable pub in_a_row : {S R A : Type 0} → (S → R → Result S A) → S → List R → Result S (List A)
in_a_row step s rs = record { state = end step s rs; answer = answers step s rs }
