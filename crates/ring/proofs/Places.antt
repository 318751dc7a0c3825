-- Where steps along a ring of any size lead: by the laws of remainders. Nothing else opens `further`.
use mathlib.Core.Path.{◌≡◌, ap, ◌∙◌}
use mathlib.Core.Logic.{◌≢◌}
use mathlib.Core.Bool.{Bool}
use Prim.Native.Nat.{ℕ, suc, ◌+◌, ◌-◌, ◌%◌, ◌<◌, ◌≤◌}
use native.Mathlib.Nat.{add-zero, mod-lt, mod-eq_of_lt, mod-add-mod, mod-eq-sub-mod}
use native.Mathlib.Omega.{arith}
use Rattle.lists.specs.Tests.{Whether, holds, fails}
use Rattle.lists.proofs.Tests.{is_ltb}
use Rattle.ring.specs.Ring.{further}

-- Steps lead to places of the ring.
pub further_is_place : (size place n : ℕ) → 0 < size → further size place n < size
unfolding further
further_is_place size place n h = mod-lt (place + n) h

-- Where no step is taken the place stays.
pub no_further : (size place : ℕ) → place < size → further size place 0 ≡ place
unfolding further
no_further size place h = rw add-zero (mod-eq_of_lt h)

-- One step, and then n more.
pub one_then_further : (size place n : ℕ) → further size (further size place 1) n ≡ further size place (suc n)
unfolding further
one_then_further size place n = mod-add-mod (place + 1) size n ∙ ap (λ k. k % size) (omega arith)

-- Steps that stay before the end just add up.
pub further_before_end : (size place n : ℕ) → place + n < size → further size place n ≡ place + n
unfolding further
further_before_end size place n l = mod-eq_of_lt l

-- Up to one round of steps that reaches the end goes on from the first place.
pub further_past_end : (size place n : ℕ) → place < size → n ≤ size → size ≤ place + n → further size place n + size ≡ place + n
unfolding further
further_past_end size place n p h l =
    omega (arith, mod-eq-sub-mod {n = place + n} {m = size} (omega arith), mod-eq_of_lt {n = place + n - size} {m = size} (omega arith))

-- These are all cases.
data Reached (size place n : ℕ) : Type 0 where
  before_end : further size place n ≡ place + n → Reached size place n
  past_end : further size place n + size ≡ place + n → Reached size place n

reached : (size place n : ℕ) → place < size → n ≤ size → Reached size place n
reached size place n p h = go (is_ltb (place + n) size)
  where
    go : {b : Bool} → Whether (place + n < size) b → Reached size place n
    go (holds l) = before_end (further_before_end size place n l)
    go (fails l) = past_end (further_past_end size place n p h (omega arith))

-- Within one round no place comes twice.
pub different_places : (size place n m : ℕ) → place < size → n < size → m < size → n ≢ m → further size place n ≢ further size place m
different_places size place n m p l k d e = go (reached size place n p (omega arith)) (reached size place m p (omega arith))
  where
    go : Reached size place n → Reached size place m → ⊥
    go (before_end a) (before_end b) = omega arith
    go (before_end a) (past_end b) = omega arith
    go (past_end a) (before_end b) = omega arith
    go (past_end a) (past_end b) = omega arith
