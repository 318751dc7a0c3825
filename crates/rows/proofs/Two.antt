-- Two lists among any number: the claim for two lists from the claim for any number, by induction on the merge.
use mathlib.Core.Path.{◌≡◌, refl, sym, ◌∙◌, ap, subst}
use mathlib.Core.Bool.{Bool, true, false}
use mathlib.Core.List.{List, [], ◌∷◌}
use Rattle.rows.specs.Program.{Result}
use Rattle.rows.specs.Runs.{end, answers}
use Rattle.rows.specs.Merge.{Merge, done, left, right, Separate}
use Rattle.rows.specs.Merges.{keep_if, share, MergeOf, end_of_turns, answers_of_turns, SeparateAll}

pub keep_yes : {P X : Type 0} (d : Dec P) (x : X) (l : List X) → P → keep_if d x l ≡ x ∷ l
unfolding keep_if
keep_yes (yes p) x l h = refl
keep_yes (no n) x l h = absurd (n h)

pub keep_no : {P X : Type 0} (d : Dec P) (x : X) (l : List X) → (P → ⊥) → keep_if d x l ≡ l
unfolding keep_if
keep_no (yes p) x l n = absurd (n p)
keep_no (no n) x l h = refl

-- The first list where the first decision is yes, else the second where the second is, else none.
unfoldable pub choose : {P Q X : Type 0} → Dec P → Dec Q → List X → List X → List X
choose (yes p) q xs ys = xs
choose (no n) (yes q) xs ys = ys
choose (no n) (no q) xs ys = []

module _ {P Q X : Type 0} where
  choose_first : (p : Dec P) (q : Dec Q) (xs ys : List X) → P → choose p q xs ys ≡ xs
  unfolding choose
  choose_first (yes p) q xs ys h = refl
  choose_first (no n) q xs ys h = absurd (n h)

  choose_second : (p : Dec P) (q : Dec Q) (xs ys : List X) → (P → ⊥) → Q → choose p q xs ys ≡ ys
  unfolding choose
  choose_second (yes p) q xs ys n h = absurd (n p)
  choose_second (no n) (yes q) xs ys m h = refl
  choose_second (no n) (no q) xs ys m h = absurd (q h)

  choose_none : (p : Dec P) (q : Dec Q) → [] ≡ choose {X = X} p q [] []
  unfolding choose
  choose_none (yes p) q = refl
  choose_none (no n) (yes q) = refl
  choose_none (no n) (no q) = refl

  choose_left : (p : Dec P) (q : Dec Q) (x : X) (l xs ys : List X) → l ≡ choose p q xs ys → keep_if p x l ≡ choose p q (x ∷ xs) ys
  unfolding choose keep_if
  choose_left (yes p) q x l xs ys e = ap (λ k. x ∷ k) e
  choose_left (no n) (yes q) x l xs ys e = e
  choose_left (no n) (no q) x l xs ys e = e

  choose_right : (p : Dec P) (q : Dec Q) (x : X) (l xs ys : List X) → (P → Q → ⊥) → l ≡ choose p q xs ys → keep_if q x l ≡ choose p q xs (x ∷ ys)
  unfolding choose keep_if
  choose_right (yes p) (yes q) x l xs ys d e = absurd (d p q)
  choose_right (yes p) (no n) x l xs ys d e = e
  choose_right (no n) (yes q) x l xs ys d e = ap (λ k. x ∷ k) e
  choose_right (no n) (no q) x l xs ys d e = e

-- Among the owners, a has the list xs, b the list ys, every other none.
unfoldable pub two_lists : {I X : Type 0} (same_owner : Discrete I) (a b : I) → List X → List X → I → List X
two_lists same_owner a b xs ys i = choose (same_owner a i) (same_owner b i) xs ys

module _ {I : Type 0} (same_owner : Discrete I) (a b : I) (differ : a ≡ b → ⊥) where
  abbrev side : Bool → I
  side true = a
  side false = b

  -- The elements of a merge of two lists, each with its owner.
  unfoldable sided : {X : Type 0} → List Bool → List X → List (I × X)
  sided [] zs = []
  sided (t ∷ turns) [] = []
  sided (t ∷ turns) (z ∷ zs) = (side t, z) ∷ sided turns zs

  merge_of : {X : Type 0} {turns : List Bool} {xs ys zs : List X} → Merge turns xs ys zs → MergeOf same_owner (two_lists same_owner a b xs ys) (sided turns zs)
  unfolding sided share two_lists
  merge_of done i = choose_none (same_owner a i) (same_owner b i)
  merge_of (left {x = x} m) i = choose_left (same_owner a i) (same_owner b i) x _ _ _ (merge_of m i)
  merge_of (right {y = y} m) i = choose_right (same_owner a i) (same_owner b i) y _ _ _ (λ p q. differ (p ∙ sym q)) (merge_of m i)

  -- What holds of the two lists, and of no list, holds of every owner's list.
  pub each_list : {X : Type 0} (Of : I → List X → Type 0) {xs ys : List X} → ((i : I) → Of i []) → Of a xs → Of b ys → (i : I) → Of i (two_lists same_owner a b xs ys i)
  unfolding two_lists choose
  each_list Of {xs} {ys} none p q i = go (same_owner a i) (same_owner b i)
    where
      go : (d : Dec (a ≡ i)) (e : Dec (b ≡ i)) → Of i (choose d e xs ys)
      go (yes h) e = subst (λ j. Of j xs) h p
      go (no n) (yes h) = subst (λ j. Of j ys) h q
      go (no n) (no h) = none i

  module _ {S R A : Type 0} (step : S → R → Result S A) where
    same_end : {turns : List Bool} {xs ys zs : List R} → Merge turns xs ys zs → (s : S) → end_of_turns step s (sided turns zs) ≡ end step s zs
    unfolding sided end_of_turns end
    same_end done s = refl
    same_end (left {x = x} m) s = same_end m (step s x).state
    same_end (right {y = y} m) s = same_end m (step s y).state

    split : {turns : List Bool} {xs ys zs : List R} → Merge turns xs ys zs → (s : S)
        → Merge turns (share same_owner a (answers_of_turns step s (sided turns zs))) (share same_owner b (answers_of_turns step s (sided turns zs))) (answers step s zs)
    unfolding sided answers_of_turns answers share
    split done s = done
    split (left {x = x} m) s = rw (keep_yes (same_owner a a) _ _ refl, keep_no (same_owner a b) _ _ differ) (left (split m (step s x).state))
    split (right {y = y} m) s = rw (keep_yes (same_owner b b) _ _ refl, keep_no (same_owner b a) _ _ (λ e. differ (sym e))) (right (split m (step s y).state))

    pub two_of : (s : S) (xs ys : List R) → SeparateAll same_owner step s (two_lists same_owner a b xs ys) → Separate step s xs ys
    unfolding two_lists
    two_of s xs ys h = record {
      answers_alone = λ turns zs m.
          let all = h.answers_alone _ (merge_of m) in
          subst (λ l. Merge turns l (answers step s ys) (answers step s zs)) (all a ∙ ap (answers step s) (choose_first (same_owner a a) (same_owner b a) xs ys refl))
          (subst (λ l. Merge turns (share same_owner a (answers_of_turns step s (sided turns zs))) l (answers step s zs))
          (all b ∙ ap (answers step s) (choose_second (same_owner a b) (same_owner b b) xs ys differ refl))
          (split m s));
      one_end = λ turns turns' zs zs' m n. sym (same_end m s) ∙ (h.one_end _ _ (merge_of m) (merge_of n) ∙ same_end n s);
    }
