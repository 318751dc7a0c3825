-- Which chain a number stands in, and how each change of one list changes it: by the fact that it stands in one list at most.
use mathlib.Core.Path.{◌≡◌, refl, sym, ◌∙◌}
use mathlib.Core.Bool.{Bool, true, false, cond}
use mathlib.Core.List.Memᴰ
use mathlib.Core.List.{List, [], ◌∷◌, Memᴰ as In}
use mathlib.Core.Logic.{◌≢◌, ◌⊎◌, inl, inr, ⊎_elim}
use Prim.Native.Nat.{ℕ, zero, suc, ◌+◌, ◌<◌, ◌≤◌}
use native.Mathlib.Omega.{arith}
use native.Mathlib.Decide.{ℕ_discrete}
use lib.ListN.{get_or}
use lib.Seq.{get_or-set_same, get_or-set_other}
use Rattle.lists.specs.Lists.{one_of}
use Rattle.lists.specs.Tests.{Whether, holds, fails}
use Rattle.lists.proofs.Members.{is_one_of}
use Rattle.chain.specs.Table.{lists, Holds, entry_of, chain_of}
use Rattle.chain.specs.Changes.{HasChain, Changed}
use Rattle.chain.proofs.Table.{chain_has}

-- The entry is the number of a list that has x, or no list has it.
abbrev Entry : ℕ → ℕ → List (List ℕ) → ℕ → Type 0
Entry x k L e = ((j : ℕ) × (e ≡ k + j) × In x (get_or L j [])) ⊎ ((e ≡ 0) × ((j : ℕ) → In x (get_or L j []) → ⊥))

entry : (x k : ℕ) (L : List (List ℕ)) → Entry x k L (entry_of x k L)
unfolding entry_of
entry x k [] = inr (refl, λ j i. Memᴰ.not-nil i)
entry x k (l ∷ L) = go (one_of x l) (is_one_of x l) (entry x (suc k) L)
  where
    go : (b : Bool) → Whether (In x l) b → Entry x (suc k) L (entry_of x (suc k) L) → Entry x k (l ∷ L) (cond b k (entry_of x (suc k) L))
    go true (holds i) r = inl (0, omega arith, i)
    go false (fails n) (inl (j, e, i)) = inl (suc j, omega arith, i)
    go false (fails n) (inr (e, f)) = inr (e, absent)
      where
        absent : (j : ℕ) → In x (get_or (l ∷ L) j []) → ⊥
        absent zero i = n i
        absent (suc j) i = f j i

-- A number stands where it is said to stand.
pub stands_there : (x k : ℕ) (L : List (List ℕ)) → chain_of x L ≡ k → 0 < k → In x (get_or L k [])
unfolding chain_of
stands_there x k L e h = ⊎_elim
    (λ r. let q : r.0 ≡ k = let z = r.1 in omega arith in rw q at r.2)
    (λ r. absurd (let z = r.0 in omega arith))
    (entry x 0 L)

-- A number that no list has stands nowhere.
pub stands_nowhere : (x : ℕ) (L : List (List ℕ)) → ((k : ℕ) → In x (get_or L k []) → ⊥) → chain_of x L ≡ 0
unfolding chain_of
stands_nowhere x L f = ⊎_elim (λ r. absurd (f r.0 r.2)) (λ r. r.0) (entry x 0 L)

module _ {n c : ℕ} {s : List ℕ} {L : List (List ℕ)} (H : Holds n c s L) where
  -- A number of a list stands in that chain.
  pub stands_in : (k : ℕ) {x : ℕ} → In x (get_or L k []) → chain_of x L ≡ k
  unfolding chain_of
  stands_in k {x} i = ⊎_elim (λ r. let q : r.0 ≡ k = H.apart r.2 i in let z = r.1 in omega arith) (λ r. absurd (r.1 k i)) (entry x 0 L)

  -- A number that stands nowhere is in no list.
  pub stands_free : (x : ℕ) → chain_of x L ≡ 0 → (k : ℕ) → In x (get_or L k []) → ⊥
  stands_free x e k i = let b = chain_has H k i in let q = stands_in k i in omega arith

  -- A number stands in one of the table's chains, or in none.
  pub stands_within : (x : ℕ) → chain_of x L ≤ c
  stands_within x = go (chain_of x L) refl
    where
      go : (k : ℕ) → chain_of x L ≡ k → k ≤ c
      go zero e = omega arith
      go (suc k) e = (chain_has H (suc k) (stands_there x (suc k) L e (omega arith))).1

-- One chain is changed.
module _ {n c k : ℕ} {s s' l : List ℕ} (a : HasChain n c k s) (d : Changed n c k s s' l) where
  pub new_list : get_or (lists n c s') k [] ≡ l
  new_list =
      let z = a.sound.count in
      let h = a.high in
      rw d.lists_are (get_or-set_same (lists n c s) k l [] (omega arith))

  pub other_list : (j : ℕ) → j ≢ k → get_or (lists n c s') j [] ≡ get_or (lists n c s) j []
  other_list j f = rw d.lists_are (get_or-set_other (lists n c s) k j l [] f)

  -- A list of the new table is the changed one, or another as it was.
  in_new : (j : ℕ) {x : ℕ} → In x (get_or (lists n c s') j []) → In x l ⊎ (j ≢ k × In x (get_or (lists n c s) j []))
  in_new j {x} m = go (ℕ_discrete j k)
    where
      go : Dec (j ≡ k) → In x l ⊎ (j ≢ k × In x (get_or (lists n c s) j []))
      go (yes e) = inl (rw (e, new_list) at m)
      go (no f) = inr (f, rw (other_list j f) at m)

  -- Whatever is in the new list stands in the chain.
  pub standing_new : {x : ℕ} → In x l → chain_of x (lists n c s') ≡ k
  standing_new i = stands_in d.sound k (rw new_list i)

  -- Whatever was in the old list and isn't in the new one stands nowhere.
  pub standing_none : {x : ℕ} → In x (get_or (lists n c s) k []) → (In x l → ⊥) → chain_of x (lists n c s') ≡ 0
  standing_none {x} i f = stands_nowhere x (lists n c s') (λ j m. ⊎_elim f (λ o. o.0 (a.sound.apart o.1 i)) (in_new j m))

  -- Whatever is in both lists, or in neither, stands where it stood.
  pub standing_same : (x : ℕ) → (In x l → In x (get_or (lists n c s) k [])) → (In x (get_or (lists n c s) k []) → In x l)
      → chain_of x (lists n c s') ≡ chain_of x (lists n c s)
  unfolding chain_of
  standing_same x f g = ⊎_elim (λ r. was r.0 r.2 (ℕ_discrete r.0 k)) (λ r. was_not r.1) (entry x 0 (lists n c s))
    where
      was : (j : ℕ) → In x (get_or (lists n c s) j []) → Dec (j ≡ k) → chain_of x (lists n c s') ≡ chain_of x (lists n c s)
      was j i (yes e) = let i' = rw e at i in standing_new (g i') ∙ sym (stands_in a.sound k i')
      was j i (no h) = stands_in d.sound j (rw (other_list j h) i) ∙ sym (stands_in a.sound j i)

      was_not : ((j : ℕ) → In x (get_or (lists n c s) j []) → ⊥) → chain_of x (lists n c s') ≡ chain_of x (lists n c s)
      was_not h = stands_nowhere x (lists n c s') (λ j m. ⊎_elim (λ i. h k (f i)) (λ o. h j o.1) (in_new j m)) ∙ sym (stands_nowhere x (lists n c s) h)
