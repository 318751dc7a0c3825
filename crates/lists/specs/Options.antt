-- A value or none: definitions that the library lacks.
use Rattle.std.specs.Prelude.{Bool, true, false}
use Rattle.std.proofs.Math.Option.{Option, none, some}

-- There is none.
abbrev pub absent : {X : Type 0} → Option X → Bool
absent none = true
absent (some x) = false

-- P holds of the value, if there is one.
abbrev pub IfSome : {X : Type 0} → (X → Type 0) → Option X → Type 0
IfSome P none = Unit
IfSome P (some x) = P x
