-- What a passed or failed test says of its parts, where the library has no such law: by cases on the first part.
use mathlib.Core.Path.{◌≡◌, refl}
use mathlib.Core.Bool.{Bool, true, false, not, ◌&&◌, ◌||◌}
use Prim.Native.Nat.{ℕ, ◌≤◌}
use lib.Dec.{T, leb, leb→le, le→leb}
use mir.Facts.{and_yes, yes_and}
use Rattle.model.specs.Sizes.{within}

-- The two halves of the library's `or_no`, which `search` can't take apart.
pub neither_left : (a b : Bool) → T (not (a || b)) → T (not a)
neither_left true b t = t
neither_left false b t = tt

pub neither_right : (a b : Bool) → T (not (a || b)) → T (not b)
neither_right true b t = absurd t
neither_right false b t = t

pub neither : (a b : Bool) → T (not a) → T (not b) → T (not (a || b))
neither true b t u = t
neither false b t u = u

-- Two tests that don't pass together: where the one passes, the other doesn't.
pub not_both : (a b : Bool) → T (not (a && b)) → T a → T (not b)
not_both true b t u = t
not_both false b t u = absurd u

pub not_both_left : (a b : Bool) → T (not (a && b)) → T b → T (not a)
not_both_left true true t u = t
not_both_left true false t u = absurd u
not_both_left false b t u = tt

pub or_left : (a b : Bool) → T a → T (a || b)
or_left true b t = tt
or_left false b t = absurd t

pub or_right : (a b : Bool) → T b → T (a || b)
or_right true b t = tt
or_right false b t = t

pub is_false : (b : Bool) → T (not b) → b ≡ false
is_false true t = absurd t
is_false false t = refl

-- A number within two limits, as a test and as two facts.
pub from_within : (low high n : ℕ) → T (within low high n) → (low ≤ n) × (n ≤ high)
from_within low high n t = let h = and_yes (leb low n) (leb n high) t in (leb→le low n h.0, leb→le n high h.1)

pub to_within : (low high n : ℕ) → low ≤ n → n ≤ high → T (within low high n)
to_within low high n l h = yes_and (leb low n) (leb n high) (le→leb low n l) (le→leb n high h)

pub only_left : (b : Bool) → T (b || false) → T b
only_left true t = tt
only_left false t = absurd t
