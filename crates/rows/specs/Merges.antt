-- Any number of lists of calls in any merge. I is the type of the lists' owners.
use Rattle.std.specs.Prelude.{◌≡◌, List, [], ◌∷◌}
use Rattle.rows.specs.Program.{Result}
use Rattle.rows.specs.Runs.{answers}

-- x in front of the list, where the decision is yes.
unfoldable pub keep_if : {P X : Type 0} → Dec P → X → List X → List X
keep_if (yes p) x l = x ∷ l
keep_if (no n) x l = l

module _ {I : Type 0} (same_owner : Discrete I) where
  -- A merge is a list of turns, each an owner and what it does. What owner i does, in order:
  unfoldable pub share : {X : Type 0} → I → List (I × X) → List X
  share i [] = []
  share i (turn ∷ turns) = keep_if (same_owner turn.0 i) turn.1 (share i turns)

  -- The turns hold the lists, each in its own order, and nothing else.
  abbrev pub MergeOf : {X : Type 0} → (I → List X) → List (I × X) → Type 0
  MergeOf lists turns = (i : I) → share i turns ≡ lists i

module _ {I S R A : Type 0} (step : S → R → Result S A) where
  -- The state that the turns leave, made one after the other, and their answers, each beside its owner.
  unfoldable pub end_of_turns : S → List (I × R) → S
  end_of_turns s [] = s
  end_of_turns s (turn ∷ turns) = end_of_turns (step s turn.1).state turns

  unfoldable pub answers_of_turns : S → List (I × R) → List (I × A)
  answers_of_turns s [] = []
  answers_of_turns s (turn ∷ turns) = (turn.0, (step s turn.1).answer) ∷ answers_of_turns (step s turn.1).state turns

-- The claim about any number of lists from one state.
pub record SeparateAll {I S R A : Type 0} (same_owner : Discrete I) (step : S → R → Result S A) (s : S) (lists : I → List R) : Type 0 where
  -- In every merge each owner's answers are those of its list alone.
  pub answers_alone : (turns : List (I × R))
      → MergeOf same_owner lists turns → MergeOf same_owner (λ i. answers step s (lists i)) (answers_of_turns step s turns)
  -- All merges end in equal states.
  pub one_end : (turns turns' : List (I × R))
      → MergeOf same_owner lists turns → MergeOf same_owner lists turns' → end_of_turns step s turns ≡ end_of_turns step s turns'
