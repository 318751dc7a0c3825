-- A test of the code that reads otherwise than that of the definition: by the cases of what is tested.
use mathlib.Core.Path.{◌≡◌, refl}
use mathlib.Core.List.{List, [], ◌∷◌}
use lib.Dec.{eqb, eqb-suc-zero}
use lib.ListN.{length}
use Rattle.lists.specs.Lists.{empty}

-- A list is empty where it has no elements.
pub count_zero : {X : Type 0} (l : List X) → eqb (length l) 0 ≡ empty l
unfolding empty
count_zero [] = refl
count_zero (x ∷ l) = eqb-suc-zero (length l)
