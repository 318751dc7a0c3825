-- What a choice by a test gives when the test's answer is known: by cases of the answer.
use mathlib.Core.Path.{◌≡◌, refl}
use mathlib.Core.Bool.{Bool, true, false, not, cond}
use mathlib.Core.List.{List, Memᴰ as In}
use Prim.Native.Nat.{ℕ}
use lib.Dec.{T}
use Rattle.lists.specs.Lists.{one_of}
use Rattle.lists.specs.Tests.{Whether, holds, fails}
use Rattle.lists.proofs.Members.{is_one_of}

pub cond_yes : {X : Type 0} (b : Bool) (x y : X) → T b → cond b x y ≡ x
cond_yes true x y t = refl
cond_yes false x y t = absurd t

pub cond_no : {X : Type 0} (b : Bool) (x y : X) → T (not b) → cond b x y ≡ y
cond_no true x y t = absurd t
cond_no false x y t = refl

pub cond_both : {X : Type 0} {z : X} (b : Bool) (x y : X) → x ≡ z → (T (not b) → y ≡ z) → cond b x y ≡ z
cond_both true x y e h = e
cond_both false x y e h = h tt

-- A number of a list, and any other.
module _ {X : Type 0} (n : ℕ) (l : List ℕ) (x y : X) where
  pub cond_member : In n l → cond (one_of n l) x y ≡ x
  cond_member i = go (is_one_of n l)
    where
      go : {b : Bool} → Whether (In n l) b → cond b x y ≡ x
      go (holds j) = refl
      go (fails f) = absurd (f i)

  pub cond_no_member : (In n l → ⊥) → cond (one_of n l) x y ≡ y
  cond_no_member f = go (is_one_of n l)
    where
      go : {b : Bool} → Whether (In n l) b → cond b x y ≡ y
      go (holds i) = absurd (f i)
      go (fails g) = refl
