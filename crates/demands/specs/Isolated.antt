-- Demand 3, and document 01, "What demand 3 compares", over records: of any engine, and however calls are made on its records.
use Rattle.std.specs.Prelude.{◌≡◌, Bool, List, [], map, ℕ}
use Rattle.lists.specs.Lists.{Each}
use Rattle.rows.specs.Runs.{Run}
use Rattle.rows.specs.Merge.{Merge}
use Rattle.rows.specs.Merges.{share, MergeOf}
use Rattle.model.specs.Rows.{empty_state}
use Rattle.model.specs.Engine.{Engine}
use Rattle.model.specs.Isolation.{Placed, CallOf, Carrier, Own, ListsOfTwo, Owners, OwnedBy}
use Rattle.demands.specs.Runs.{RunOfTurns, Interface}

-- ── Two carriers ──

-- `Merge turns xs ys zs`: zs holds every element of both lists, each once and in its list's order; the turns say whose element stands at each position. So the
-- answers are merged, and in document 01's numbers too.
pub record AnswersMerged {A N : Type 0} (values_of : A → N) (turns : List Bool) (xs ys zs : List A) : Type 0 where
  pub answers : Merge turns xs ys zs
  pub values : Merge turns (map values_of xs) (map values_of ys) (map values_of zs)

-- The claim about two lists of calls from one record, each call made by these steps.
pub record Undisturbed {S C A N : Type 0} (E : Engine S) (Steps : S → C → S → A → Type 0) (values_of : A → N) (s : S) (xs ys : List C) : Type 0 where
  -- In every merge, every call answers as when its list runs alone from s: the merge's answers are the two lists' answers, merged by the same turns.
  pub answers_alone : {turns : List Bool} {zs : List C} → Merge turns xs ys zs
      → {x_last y_last z_last : S} {x_answers y_answers z_answers : List A}
      → Run Steps s xs x_last x_answers → Run Steps s ys y_last y_answers → Run Steps s zs z_last z_answers
      → AnswersMerged values_of turns x_answers y_answers z_answers
  -- All merges end in equal states.
  pub one_end : {turns turns' : List Bool} {zs zs' : List C} → Merge turns xs ys zs → Merge turns' xs ys zs'
      → {last last' : S} {answers answers' : List A}
      → Run Steps s zs last answers → Run Steps s zs' last' answers' → E.Same last last'
  -- The end states are sound.
  pub end_sound : {turns : List Bool} {zs : List C} → Merge turns xs ys zs → {last : S} {answers : List A} → Run Steps s zs last answers → E.Sound last

-- From any sound state, two carriers, each one's waiting tasks and queued messages only in its own objects, and their lists.
abbrev pub Isolated : {S C A : Type 0} → Engine S → Interface S C A → Type 0
Isolated {S} {C} {A} E F =
    (s : S) → E.Sound s
    → (a b : Carrier) → Placed (Own a) (E.abs s).rows → Placed (Own b) (E.abs s).rows
    → (xs ys : List C) → ListsOfTwo F.call_of a b xs ys
    → Undisturbed E F.Steps F.values_of s xs ys

-- The premises can be met: the empty state asks nothing more of the carriers.
abbrev pub IsolatedFromEmpty : {S C A : Type 0} → Engine S → Interface S C A → Type 0
IsolatedFromEmpty {S} {C} {A} E F =
    (s : S) → E.Sound s → (counter : ℕ) → E.abs s ≡ empty_state counter
    → (a b : Carrier) (xs ys : List C) → ListsOfTwo F.call_of a b xs ys
    → Undisturbed E F.Steps F.values_of s xs ys

-- ── Any number of carriers ──

-- `MergeOf same_owner lists turns`: the turns, each an owner with a call, hold the owners' lists, each in its own order, and nothing else. `share same_owner i`
-- is what of the turns is owner i's.
pub record AllUndisturbed {I S C A N : Type 0} (same_owner : Discrete I) (E : Engine S) (Steps : S → C → S → A → Type 0) (values_of : A → N) (s : S)
    (lists : I → List C) : Type 0 where
  pub answers_alone : {turns : List (I × C)} → MergeOf same_owner lists turns
      → {last : S} {answers : List (I × A)} → RunOfTurns Steps s turns last answers
      → (i : I) {i_last : S} {i_answers : List A} → Run Steps s (lists i) i_last i_answers
      → (share same_owner i answers ≡ i_answers) × (map values_of (share same_owner i answers) ≡ map values_of i_answers)
  pub one_end : {turns turns' : List (I × C)} → MergeOf same_owner lists turns → MergeOf same_owner lists turns'
      → {last last' : S} {answers answers' : List (I × A)}
      → RunOfTurns Steps s turns last answers → RunOfTurns Steps s turns' last' answers' → E.Same last last'
  pub end_sound : {turns : List (I × C)} → MergeOf same_owner lists turns → {last : S} {answers : List (I × A)}
      → RunOfTurns Steps s turns last answers → E.Sound last

-- Each number has one owner. An owner without calls need not be placed.
abbrev pub IsolatedMany : {S C A : Type 0} → Engine S → Interface S C A → Type 1
IsolatedMany {S} {C} {A} E F =
    (I : Type 0) (same_owner : Discrete I) (s : S) → E.Sound s
    → (o : Owners I) (lists : I → List C)
    → ((i : I) → (lists i ≡ [] → ⊥) → Placed (OwnedBy o i) (E.abs s).rows)
    → ((i : I) → Each (λ c. CallOf (OwnedBy o i) (F.call_of c)) (lists i))
    → AllUndisturbed same_owner E F.Steps F.values_of s lists
