-- A number that is 0 exactly where a list is empty tells for the list whether it is: by cases of the list.
use mathlib.Core.Path.{◌≡◌, refl, sym}
use mathlib.Core.Bool.{not}
use mathlib.Core.List.Memᴰ.{head as here}
use mathlib.Core.List.{List, [], ◌∷◌, head_d, cons≢nil, Memᴰ as In}
use mathlib.Core.Logic.{◌⊎◌, inl, inr, ⊎_elim}
use Prim.Native.Nat.{ℕ, ◌<◌}
use native.Mathlib.Omega.{arith}
use lib.Dec.{T}
use lib.ListN.{length, get_or}
use Rattle.lists.specs.Lists.{empty}
use Rattle.chain.specs.Table.{lists}
use Rattle.chain.specs.Changes.{HasChain}
use Rattle.chain.proofs.Laws.{list_range}

pub record ZeroIffEmpty (number : ℕ) (l : List ℕ) : Type 0 where
  pub then_empty : number ≡ 0 → l ≡ []
  pub then_zero : l ≡ [] → number ≡ 0

-- The count of a list is such a number.
pub count_zero : {count : ℕ} (l : List ℕ) → length l ≡ count → ZeroIffEmpty count l
count_zero [] e = record { then_empty = λ z. refl; then_zero = λ z. sym e }
count_zero (x ∷ l) e = record { then_empty = λ z. absurd (omega arith); then_zero = λ z. absurd (cons≢nil z) }

-- The first number of a chain is, as all its numbers are above 0.
first_zero : {first : ℕ} (l : List ℕ) → ((x : ℕ) → In x l → 0 < x) → first ≡ head_d l 0 → ZeroIffEmpty first l
unfolding head_d
first_zero [] positive e = record { then_empty = λ z. refl; then_zero = λ z. e }
first_zero (x ∷ l) positive e = record { then_empty = λ z. absurd (let h = positive x (here refl) in omega arith); then_zero = λ z. absurd (cons≢nil z) }

pub chain_zero : {n c k first : ℕ} {s : List ℕ} → HasChain n c k s → first ≡ head_d (get_or (lists n c s) k []) 0 → ZeroIffEmpty first (get_or (lists n c s) k [])
chain_zero {n} {c} {k} {s = s} a e = first_zero (get_or (lists n c s) k []) (λ x i. (list_range a i).0) e

-- What is asked where a list isn't empty is asked where its number isn't 0.
module _ {number : ℕ} {P Q : Type 0} where
  pub unless_empty : {l : List ℕ} → ZeroIffEmpty number l → (P → Q) → (number ≡ 0) ⊎ P → T (not (empty l)) → Q
  unfolding empty
  unless_empty {l = []} zero f h t = absurd t
  unless_empty {l = x ∷ l} zero f h t = ⊎_elim (λ z. absurd (cons≢nil (zero.then_empty z))) f h

  pub zero_or : {l : List ℕ} → ZeroIffEmpty number l → (P → Q) → (T (not (empty l)) → P) → (number ≡ 0) ⊎ Q
  unfolding empty
  zero_or {l = []} zero f h = inl (zero.then_zero refl)
  zero_or {l = x ∷ l} zero f h = inr (f (h tt))
