-- What is read of a table after a row was changed: by the decision whether two keys are equal.
use mathlib.Core.Path.{◌≡◌, refl, sym, ◌∙◌, ap, subst, subst⁻¹, subst⁻¹_refl, path_j'}
use mathlib.Core.HLevel.{hedberg}
use Rattle.rows.specs.Program.{Rows, update}

module _ {Key : Type 0} {Row : Key → Type 0} (same_key : Discrete Key) where
  pub update_same : (k : Key) (v : Row k) (m : Rows Row) → update same_key k v m k ≡ v
  unfolding update
  update_same k v m = go (same_key k k)
    where
      go : (d : Dec (k ≡ k)) → (elim d as (λ x. Row k) [ yes e ↦ subst⁻¹ Row e v | no n ↦ m k ]) ≡ v
      go (yes e) = ap (λ p. subst⁻¹ Row p v) (hedberg same_key k k e refl) ∙ subst⁻¹_refl Row v
      go (no n) = absurd (n refl)

  -- What holds of the new row, and of every other row as it was, holds of every row.
  pub update_cases : (P : (j : Key) → Row j → Type 0) (k : Key) (v : Row k) (m : Rows Row) → P k v → (j : Key) → ((j ≡ k → ⊥) → P j (m j)) → P j (update same_key k v m j)
  unfolding update
  update_cases P k v m p j q = go (same_key j k)
    where
      go : (d : Dec (j ≡ k)) → P j (elim d as (λ x. Row j) [ yes e ↦ subst⁻¹ Row e v | no n ↦ m j ])
      go (yes e) = path_j' (λ i h. P i (subst⁻¹ Row h v)) (subst (P k) (sym (subst⁻¹_refl Row v)) p) e
      go (no n) = q n

  pub update_other : (k : Key) (v : Row k) (m : Rows Row) (j : Key) → (j ≡ k → ⊥) → update same_key k v m j ≡ m j
  update_other k v m j n = update_cases (λ i w. (i ≡ k → ⊥) → w ≡ m i) k v m (λ h. absurd (h refl)) j (λ h g. refl) n

  -- Tables that agree on a row agree on it after the same change.
  pub update_agree : (k : Key) (v : Row k) (m n : Rows Row) (j : Key) → m j ≡ n j → update same_key k v m j ≡ update same_key k v n j
  update_agree k v m n j e = update_cases (λ i w. m i ≡ n i → w ≡ update same_key k v n i) k v m (λ h. sym (update_same k v n)) j (λ h g. g ∙ sym (update_other k v n j h)) e
