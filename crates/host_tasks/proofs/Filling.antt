-- An array that a loop fills with what a function makes of another's elements is in the end the other, mapped: by what it has in front.
use mathlib.Core.Path.{◌≡◌, refl, sym, ap, ◌∙◌, subst}
use mathlib.Core.List.{List, [], ◌∷◌, ◌++◌, map, map-append}
use Prim.Native.Nat.{ℕ, suc, ◌<◌, ◌≤◌, ◌+◌}
use native.Mathlib.Numerals.{add-one}
use native.Mathlib.Omega.{arith}
use lib.ListN.{length, get_or, set, take, replicate, length-set, length-replicate}
use lib.Seq.{take_all, take-suc, take-suc-set}

module _ {A B : Type 0} where
  -- The first k of the n elements are made.
  pub record Filled (f : A → B) (n : ℕ) (xs : List A) (k : ℕ) (ys : List B) : Type 0 where
    pub given_size : length xs ≡ n
    pub made_size : length ys ≡ n
    pub within : k ≤ n
    pub made : take k ys ≡ map f (take k xs)

  -- The loop starts with the first element made, everywhere.
  pub filled_first : {f : A → B} {n : ℕ} {xs : List A} {y : B} (d : A) → length xs ≡ suc n → y ≡ f (get_or xs 0 d) → Filled f (suc n) xs 1 (replicate (suc n) y)
  filled_first {f} {n} {xs} {y} d size e = record { given_size = size; made_size = length-replicate (suc n) y; within = omega arith; made = ap (λ z. z ∷ []) e ∙ front xs size }
    where
      front : (l : List A) → length l ≡ suc n → f (get_or l 0 d) ∷ [] ≡ map f (take 1 l)
      front [] h = absurd (omega (arith, h))
      front (x ∷ l) h = refl

  pub filled_more : {f : A → B} {n k : ℕ} {xs : List A} {ys : List B} {y : B} (d : A) → Filled f n xs k ys → k < n → y ≡ f (get_or xs k d) → Filled f n xs (k + 1) (set ys k y)
  filled_more {f} {n} {k} {xs} {ys} {y} d h below e = record {
    given_size = h.given_size;
    made_size = length-set ys k y ∙ h.made_size;
    within = omega arith;
    made = subst (λ j. take j (set ys k y) ≡ map f (take j xs)) (sym (add-one k)) one_more;
  }
    where
      one_more : take (suc k) (set ys k y) ≡ map f (take (suc k) xs)
      one_more =
          take-suc-set ys k y (subst (λ m. k < m) (sym h.made_size) below)
          ∙ (ap (λ l. l ++ y ∷ []) h.made ∙ (ap (λ z. map f (take k xs) ++ z ∷ []) e
          ∙ (sym (map-append f (take k xs) (get_or xs k d ∷ [])) ∙ ap (map f) (sym (take-suc xs k d (subst (λ m. k < m) (sym h.given_size) below))))))

  pub filled_all : {f : A → B} {n k : ℕ} {xs : List A} {ys : List B} → Filled f n xs k ys → n ≤ k → ys ≡ map f xs
  filled_all {f} {n} {k} {xs} {ys} h all =
      sym (take_all k ys (subst (λ m. m ≤ k) (sym h.made_size) all)) ∙ (h.made ∙ ap (map f) (take_all k xs (subst (λ m. m ≤ k) (sym h.given_size) all)))
