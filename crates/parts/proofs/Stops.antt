-- A test that stops where its first part fails is exact for both parts together: by what an exact test says of its negation.
use mathlib.Core.Path.{◌≡◌}
use mathlib.Core.Bool.{Bool, true, false, not}
use Rattle.lists.specs.Tests.{Whether, fails}
use Rattle.lists.proofs.Tests.{is_map, stopped, went_on}

module _ {P Q : Type 0} {a : Bool} (first : Whether P a) where
  pub stops : not a ≡ true → Whether (P × Q) false
  stops e = fails (λ h. stopped first e h.0)

  pub goes_on : {b : Bool} → not a ≡ false → Whether Q b → Whether (P × Q) b
  goes_on e second = is_map (λ q. (went_on first e, q)) (λ h. h.1) second
