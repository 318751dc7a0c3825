-- A recorded outcome is compared exactly: words that stand for signed numbers are equal exactly where the numbers are.
use mathlib.Core.Path.{◌≡◌, refl, sym, ◌∙◌, ap}
use mathlib.Core.Bool.{Bool, true, false, cond, ◌&&◌}
use Prim.Native.Nat.{ℕ}
use native.Mathlib.Omega.{arith}
use lib.Dec.{eqb}
use lib.IntN.{ℤ, pos, negsuc, pos-ne-negsuc}
use lib.Signed.{mag}
use borrow.Author.Tests.{eqb-true, ne_eqb}
use mir.Syntax.{w32}
use mir.Val.{SFits, to_z, of_z}
use mir.Facts.{to_z-of_z}
use Rattle.lists.specs.Tests.{Whether, fails}
use Rattle.lists.proofs.Tests.{is_map, is_eqb, is_and, same_test}
use Rattle.model.specs.Codes.{Values}
use Rattle.recording.specs.Recording.{signed, same_ℤ}
use Rattle.recording.specs.Replay.{SameValuesExactly}

pub is_same_ℤ : (x y : ℤ) → Whether (x ≡ y) (same_ℤ x y)
is_same_ℤ (pos m) (pos n) = is_map (ap pos) (ap mag) (is_eqb m n)
is_same_ℤ (negsuc m) (negsuc n) = is_map (ap negsuc) (ap mag) (is_eqb m n)
is_same_ℤ (pos m) (negsuc n) = fails (pos-ne-negsuc m n)
is_same_ℤ (negsuc m) (pos n) = fails (λ e. pos-ne-negsuc n m (sym e))

pub same_bits : {x y : ℤ} → SFits w32 x → SFits w32 y → eqb (of_z w32 x) (of_z w32 y) ≡ same_ℤ x y
same_bits {x} {y} fx fy =
    same_test (is_map (λ e. sym (to_z-of_z fx) ∙ ap (to_z w32) e ∙ to_z-of_z fy) (ap (of_z w32)) (is_eqb (of_z w32 x) (of_z w32 y))) (is_same_ℤ x y)

pub same_values_exactly : SameValuesExactly
same_values_exactly v w =
    is_map
    (λ h. λ i. record { kind = h.0.0.0.0 i; code_or_place = h.0.0.0.1 i; a = h.0.0.1 i; b = h.0.1 i; c = h.1 i })
    (λ e. ((((ap (λ (x : Values). x.kind) e, ap (λ (x : Values). x.code_or_place) e), ap (λ (x : Values). x.a) e), ap (λ (x : Values). x.b) e), ap (λ (x : Values). x.c) e))
    (is_and (is_and (is_and (is_and (is_eqb v.kind w.kind) (is_same_ℤ v.code_or_place w.code_or_place)) (is_eqb v.a w.a)) (is_eqb v.b w.b)) (is_eqb v.c w.c))

-- The field of a record of kind 0 is read as a code, that of kind 1 as a place; so neither is taken for the other.
pub as_code : (kind said : ℕ) (code : ℤ) {b : Bool} → b ≡ same_ℤ (signed said) code
    → (eqb kind 0 && b) ≡ (eqb kind 0 && same_ℤ (cond (eqb kind 0) (signed said) (pos said)) code)
as_code kind said code {b} e = go (eqb kind 0)
  where
    go : (t : Bool) → (t && b) ≡ (t && same_ℤ (cond t (signed said) (pos said)) code)
    go true = e
    go false = refl

pub as_place : (kind said place : ℕ) → (eqb kind 1 && eqb said place) ≡ (eqb kind 1 && same_ℤ (cond (eqb kind 0) (signed said) (pos said)) (pos place))
as_place kind said place = go (eqb kind 1) refl
  where
    go : (t : Bool) → eqb kind 1 ≡ t → (t && eqb said place) ≡ (t && same_ℤ (cond (eqb kind 0) (signed said) (pos said)) (pos place))
    go true e = ap (λ b. same_ℤ (cond b (signed said) (pos said)) (pos place)) (sym (ne_eqb kind 0 (λ z. let one = eqb-true kind 1 e in omega arith)))
    go false e = refl
