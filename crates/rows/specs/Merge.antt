-- Two lists of calls in any merge.
use Rattle.std.specs.Prelude.{◌≡◌, Bool, true, false, List, [], ◌∷◌}
use Rattle.rows.specs.Program.{Result}
use Rattle.rows.specs.Runs.{end, answers}

-- "Merge" is document 01's word. `Merge turns xs ys zs`: zs holds every element of xs and of ys, each once, each list in its own order.
-- The turns say at each position whose element stands there: true for xs, false for ys.
pub data Merge {X : Type 0} : List Bool → List X → List X → List X → Type 0 where
  done : Merge [] [] [] []
  left : {turns : List Bool} {x : X} {xs ys zs : List X} → Merge turns xs ys zs → Merge (true ∷ turns) (x ∷ xs) ys (x ∷ zs)
  right : {turns : List Bool} {y : X} {xs ys zs : List X} → Merge turns xs ys zs → Merge (false ∷ turns) xs (y ∷ ys) (y ∷ zs)

-- The claim about two lists from one state.
pub record Separate {S R A : Type 0} (step : S → R → Result S A) (s : S) (xs ys : List R) : Type 0 where
  -- In every merge each call answers as when its list runs alone: the merge's answers are the two lists' answers, merged by the same turns.
  pub answers_alone : (turns : List Bool) (zs : List R) → Merge turns xs ys zs → Merge turns (answers step s xs) (answers step s ys) (answers step s zs)
  -- All merges end in equal states.
  pub one_end : (turns turns' : List Bool) (zs zs' : List R) → Merge turns xs ys zs → Merge turns' xs ys zs' → end step s zs ≡ end step s zs'
