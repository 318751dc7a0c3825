-- Owners whose calls see and change only their own part of the state: any merge of any lists, by induction on the turns.
use mathlib.Core.Path.{◌≡◌, refl, sym, ◌∙◌, ap, ap₂, subst}
use mathlib.Core.List.{List, [], ◌∷◌}
use Rattle.lists.specs.Lists.{Each, none, both}
use Rattle.rows.specs.Program.{Result}
use Rattle.rows.specs.Runs.{end, answers}
use Rattle.rows.specs.Merges.{keep_if, share, MergeOf, end_of_turns, answers_of_turns, SeparateAll}

-- What is asked of a step. `Of i r`: the call r is one of owner i's. `view i s` is what those calls can see of s; `rest s` is what no call changes.
pub record Local {I S R A W : Type 0} {Seen : I → Type 0} (step : S → R → Result S A) (view : (i : I) → S → Seen i) (rest : S → W) (Invariant : S → Type 0) (Of : I → R → Type 0) : Type 0 where
  pub keeps : (s : S) (i : I) (r : R) → Invariant s → Of i r → Invariant (step s r).state
  pub own : (s t : S) (i : I) (r : R) → Invariant s → Of i r → view i s ≡ view i t → ((step s r).answer ≡ (step t r).answer) × (view i (step s r).state ≡ view i (step t r).state)
  pub others : (s : S) (i : I) (r : R) → Invariant s → Of i r → (j : I) → (i ≡ j → ⊥) → view j (step s r).state ≡ view j s
  pub same_rest : (s : S) (i : I) (r : R) → Invariant s → Of i r → rest (step s r).state ≡ rest s
  pub whole : (s t : S) → ((i : I) → view i s ≡ view i t) → rest s ≡ rest t → s ≡ t

-- What holds of every list's elements holds of every turn of their merge.
module _ {I X : Type 0} (same_owner : Discrete I) (Of : I → X → Type 0) where
  tail_of : (P : X → Type 0) {D : Type 0} (d : Dec D) (x : X) (l : List X) → Each P (keep_if d x l) → Each P l
  unfolding keep_if
  tail_of P (yes e) x l (both q a) = a
  tail_of P (no n) x l a = a

  head_of : (P : X → Type 0) {D : Type 0} (d : Dec D) (x : X) (l : List X) → D → Each P (keep_if d x l) → P x
  unfolding keep_if
  head_of P (yes e) x l h (both q a) = q
  head_of P (no n) x l h a = absurd (n h)

  turns_of : (z : List (I × X)) → ((i : I) → Each (Of i) (share same_owner i z)) → Each (λ turn. Of turn.0 turn.1) z
  unfolding share
  turns_of [] a = none
  turns_of (p ∷ z) a =
      both
      (head_of (Of p.0) (same_owner p.0 p.0) p.1 _ refl (a p.0))
      (turns_of z (λ i. tail_of (Of i) (same_owner p.0 i) p.1 _ (a i)))

module _ {I S R A W : Type 0} {Seen : I → Type 0} (same_owner : Discrete I) (step : S → R → Result S A) (view : (i : I) → S → Seen i) (rest : S → W) (Invariant : S → Type 0) (Of : I → R → Type 0)
    (L : Local step view rest Invariant Of) where
  -- From states that look the same to i: its answers in the merge, and its view at the end, are those of its calls alone.
  alone : (i : I) (s t : S) → Invariant s → view i s ≡ view i t → {z : List (I × R)} → Each (λ turn. Of turn.0 turn.1) z
      → (share same_owner i (answers_of_turns step s z) ≡ answers step t (share same_owner i z)) × (view i (end_of_turns step s z) ≡ view i (end step t (share same_owner i z)))
  unfolding share answers_of_turns answers end_of_turns end keep_if
  alone i s t v e none = (refl, e)
  alone i s t v e (both {x = p} {xs = z} o os) = go (same_owner p.0 i) (λ u f. alone i next u (L.keeps s p.0 p.1 v o) f os)
    where
      next : S
      next = (step s p.1).state

      go : (d : Dec (p.0 ≡ i))
          → ((u : S) → view i next ≡ view i u → (share same_owner i (answers_of_turns step next z) ≡ answers step u (share same_owner i z)) × (view i (end_of_turns step next z) ≡ view i (end step u (share same_owner i z))))
          → (keep_if d (step s p.1).answer (share same_owner i (answers_of_turns step next z)) ≡ answers step t (keep_if d p.1 (share same_owner i z)))
          × (view i (end_of_turns step next z) ≡ view i (end step t (keep_if d p.1 (share same_owner i z))))
      go (yes h) then =
          let a = L.own s t i p.1 v (subst (λ j. Of j p.1) h o) e in
          let b = then (step t p.1).state a.1 in
          (ap₂ (λ x l. x ∷ l) a.0 b.0, b.1)
      go (no h) then = then t (L.others s p.0 p.1 v o i h ∙ e)

  rest_kept : (s : S) → Invariant s → {z : List (I × R)} → Each (λ turn. Of turn.0 turn.1) z → rest (end_of_turns step s z) ≡ rest s
  unfolding end_of_turns
  rest_kept s v none = refl
  rest_kept s v (both {x = p} o os) = rest_kept (step s p.1).state (L.keeps s p.0 p.1 v o) os ∙ L.same_rest s p.0 p.1 v o

  pub separate : (s : S) (lists : I → List R) → Invariant s → ((i : I) → Each (Of i) (lists i)) → SeparateAll same_owner step s lists
  separate s lists v o = record {
    answers_alone = λ z m i. (alone i s s v refl (sent z m)).0 ∙ ap (answers step s) (m i);
    one_end = λ z u m n.
        L.whole (end_of_turns step s z) (end_of_turns step s u)
        (λ i. (alone i s s v refl (sent z m)).1 ∙ (ap (λ l. view i (end step s l)) (m i ∙ sym (n i)) ∙ sym (alone i s s v refl (sent u n)).1))
        (rest_kept s v (sent z m) ∙ sym (rest_kept s v (sent u n)));
  }
    where
      sent : (z : List (I × R)) → MergeOf same_owner lists z → Each (λ turn. Of turn.0 turn.1) z
      sent z m = turns_of same_owner Of z (λ i. subst (Each (Of i)) (sym (m i)) (o i))
