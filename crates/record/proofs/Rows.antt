-- What is read of a record's rows: its cells where the number is valid, and nothing elsewhere. By the decision whether it is.
use mathlib.Core.Path.{◌≡◌}
use mathlib.Core.Bool.{Bool, true, false, not, cond}
use lib.Dec.{T}
use Rattle.model.proofs.Choices.{cond_yes}
use Rattle.model.specs.Rows.{Key, valid, Row, nothing}
use Rattle.record.specs.declared.State.{State}
use Rattle.record.specs.Meaning.{cells_of, abs}

-- A Boolean passes or doesn't.
pub passes_or_not : {P : Type 0} (b : Bool) → (T b → P) → (T (not b) → P) → P
passes_or_not true y n = y tt
passes_or_not false y n = n tt

pub yes_not_not : (b : Bool) → T b → T (not (not b))
yes_not_not true t = tt
yes_not_not false t = absurd t

-- A choice has whatever both sides have.
pub cond_cases : {X : Type 0} (P : X → Type 0) (b : Bool) {x y : X} → (T b → P x) → (T (not b) → P y) → P (cond b x y)
cond_cases P true p q = p tt
cond_cases P false p q = q tt

-- The row of a valid number is what its cells say, and what holds of that and of an undefined row holds of every row.
module _ (s : State) (k : Key) where
  pub row_is : T (valid k) → (abs s).rows k ≡ cells_of s k
  unfolding abs
  row_is t = cond_yes (valid k) _ _ t

  pub row_cases : (P : Row k → Type 0) → (T (valid k) → P (cells_of s k)) → (T (not (valid k)) → P (nothing k)) → P ((abs s).rows k)
  unfolding abs
  row_cases P p q = cond_cases P (valid k) p q
