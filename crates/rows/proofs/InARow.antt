-- Lists whose entries each stand for calls made in a row, as tables of calls do: what is claimed of lists of calls holds of them, by flattening the turns.
use mathlib.Core.Path.{◌≡◌, refl, sym, ◌∙◌, ap, ap₂}
use mathlib.Core.List.{List, [], ◌∷◌, ◌++◌, map, flatten, head-eq_of_cons-eq, tail-eq_of_cons-eq}
use Rattle.rows.specs.Program.{Result}
use Rattle.rows.specs.Runs.{end, answers, in_a_row}
use Rattle.rows.specs.Merges.{share, end_of_turns, answers_of_turns, SeparateAll}
use Rattle.rows.proofs.Runs.{answers_append}
use Rattle.rows.proofs.Two.{keep_yes, keep_no}

-- `entry` is the step of an entry, `calls` the calls that a list of entries stands for. An entry leaves the state that its calls leave in a row, and what it
-- gives depends on their answers alone.
pub record MadeOf {S R A X Y : Type 0} (step : S → R → Result S A) (entry : S → X → Result S Y) (calls : List X → List R) : Type 0 where
  pub row : X → List R
  pub no_entry : calls [] ≡ []
  pub one_entry : (x : X) (xs : List X) → calls (x ∷ xs) ≡ row x ++ calls xs
  pub state_is : (s : S) (x : X) → (entry s x).state ≡ end step s (row x)
  pub by_answers : (s t : S) (x : X) → answers step s (row x) ≡ answers step t (row x) → (entry s x).answer ≡ (entry t x).answer

-- ── Calls in a row, and others after them ──

module _ {S R A : Type 0} (step : S → R → Result S A) where
  -- As many answers as calls: where the answers with others after them are equal, so are the two parts.
  answers_apart : (s t : S) (xs : List R) {ys zs : List A} → answers step s xs ++ ys ≡ answers step t xs ++ zs → (answers step s xs ≡ answers step t xs) × (ys ≡ zs)
  unfolding answers
  answers_apart s t [] e = (refl, e)
  answers_apart s t (x ∷ xs) e =
      let rest = answers_apart (step s x).state (step t x).state xs (tail-eq_of_cons-eq e) in
      (ap₂ (λ y l. y ∷ l) (head-eq_of_cons-eq e) rest.0, rest.1)

-- One owner's turns.
abbrev turns_of : {I X : Type 0} → I → List X → List (I × X)
turns_of i xs = map (λ x. (i, x)) xs

module _ {I : Type 0} (same_owner : Discrete I) {X : Type 0} (i j : I) where
  share_own : i ≡ j → (xs : List X) (turns : List (I × X)) → share same_owner j (turns_of i xs ++ turns) ≡ xs ++ share same_owner j turns
  unfolding share
  share_own e [] turns = refl
  share_own e (x ∷ xs) turns = keep_yes (same_owner i j) x _ e ∙ ap (λ l. x ∷ l) (share_own e xs turns)

  share_other : (i ≡ j → ⊥) → (xs : List X) (turns : List (I × X)) → share same_owner j (turns_of i xs ++ turns) ≡ share same_owner j turns
  unfolding share
  share_other n [] turns = refl
  share_other n (x ∷ xs) turns = keep_no (same_owner i j) x _ n ∙ share_other n xs turns

module _ {I S R A : Type 0} (step : S → R → Result S A) (i : I) where
  end_of_row : (s : S) (xs : List R) (turns : List (I × R)) → end_of_turns step s (turns_of i xs ++ turns) ≡ end_of_turns step (end step s xs) turns
  unfolding end_of_turns end
  end_of_row s [] turns = refl
  end_of_row s (x ∷ xs) turns = end_of_row (step s x).state xs turns

  answers_of_row : (s : S) (xs : List R) (turns : List (I × R))
      → answers_of_turns step s (turns_of i xs ++ turns) ≡ turns_of i (answers step s xs) ++ answers_of_turns step (end step s xs) turns
  unfolding answers_of_turns answers end
  answers_of_row s [] turns = refl
  answers_of_row s (x ∷ xs) turns = ap (λ l. (i, (step s x).answer) ∷ l) (answers_of_row (step s x).state xs turns)

-- ── Turns of entries as turns of their calls ──

module _ {I S R A X Y : Type 0} (same_owner : Discrete I) {step : S → R → Result S A} {entry : S → X → Result S Y} {calls : List X → List R} (made : MadeOf step entry calls) where
  flat : List (I × X) → List (I × R)
  flat [] = []
  flat (turn ∷ turns) = turns_of turn.0 (made.row turn.1) ++ flat turns

  share_flat : (i : I) (turns : List (I × X)) → share same_owner i (flat turns) ≡ calls (share same_owner i turns)
  unfolding flat share
  share_flat i [] = sym made.no_entry
  share_flat i ((j, x) ∷ turns) = elim (same_owner j i) [
    | yes p ↦ simp (share_own, keep_yes, made.one_entry, share_flat i turns)
    | no n ↦ simp (share_other, keep_no, share_flat i turns)
  ]

  end_flat : (s : S) (turns : List (I × X)) → end_of_turns step s (flat turns) ≡ end_of_turns entry s turns
  unfolding flat end_of_turns
  end_flat s [] = refl
  end_flat s ((j, x) ∷ turns) = simp (end_of_row, ← made.state_is s x, end_flat (entry s x).state turns)

  -- Where an owner's calls answer in the merge as they do alone, so do its entries.
  alone : (i : I) (s t : S) (turns : List (I × X)) → share same_owner i (answers_of_turns step s (flat turns)) ≡ answers step t (calls (share same_owner i turns))
      → share same_owner i (answers_of_turns entry s turns) ≡ answers entry t (share same_owner i turns)
  unfolding flat share answers_of_turns answers
  alone i s t [] e = refl
  alone i s t ((j, x) ∷ turns) e = elim (same_owner j i) [
    | yes p ↦
        let parts = answers_apart step s t (made.row x) (simp (answers_of_row, share_own, keep_yes, made.one_entry, answers_append) at e) in
        simp keep_yes (ap₂ (λ y l. y ∷ l) (made.by_answers s t x parts.0) (alone i (entry s x).state (entry t x).state turns (simp made.state_is parts.1)))
    | no n ↦ simp keep_no (alone i (entry s x).state t turns (simp made.state_is (simp (answers_of_row, share_other, keep_no) at e)))
  ]

  pub made_of_calls : (s : S) (lists : I → List X) → SeparateAll same_owner step s (λ i. calls (lists i)) → SeparateAll same_owner entry s lists
  made_of_calls s lists h = record {
    answers_alone = λ turns m i.
        alone i s s turns (h.answers_alone (flat turns) (λ j. share_flat j turns ∙ ap calls (m j)) i ∙ ap (λ l. answers step s (calls l)) (sym (m i))) ∙ ap (answers entry s) (m i);
    one_end = λ turns turns' m n.
        sym (end_flat s turns)
        ∙ (h.one_end (flat turns) (flat turns') (λ j. share_flat j turns ∙ ap calls (m j)) (λ j. share_flat j turns' ∙ ap calls (n j)) ∙ end_flat s turns');
  }

-- ── Calls made singly, and rows of calls ──

pub single_made : {S R A : Type 0} (step : S → R → Result S A) → MadeOf step step (λ rs. rs)
unfolding end answers
single_made step = record { row = λ r. r ∷ []; no_entry = refl; one_entry = λ r rs. refl; state_is = λ s r. refl; by_answers = λ s t r e. head-eq_of_cons-eq e }

pub rows_made : {S R A : Type 0} (step : S → R → Result S A) → MadeOf step (in_a_row step) flatten
unfolding in_a_row flatten
rows_made step = record { row = λ rs. rs; no_entry = refl; one_entry = λ rs rss. refl; state_is = λ s rs. refl; by_answers = λ s t rs e. e }
