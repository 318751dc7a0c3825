-- All chains of a table: what it holds is what is read, and a change of one chain leaves the others. By the fact that no two share a cell.
use mathlib.Core.Path.{◌≡◌, refl, sym, ap, ◌∙◌}
use mathlib.Core.List.Memᴰ
use mathlib.Core.List.{List, [], ◌∷◌, Memᴰ as In}
use mathlib.Core.Logic.{◌≢◌, ◌⊎◌, inl, inr, ⊎_elim}
use Prim.Native.Nat.{ℕ, zero, suc, ◌+◌, ◌<◌, ◌≤◌}
use native.Mathlib.Omega.{arith}
use native.Mathlib.Decide.{ℕ_discrete}
use lib.ListN.{length, get_or, set, length-set, length-map}
use lib.Seq.{get_or-set_same, get_or-set_other, ext_get_or}
use Rattle.lists.specs.Lists.{insert_at, remove_at}
use Rattle.lists.proofs.Ascending.{length_ascending, map_ascending_at}
use Rattle.lists.proofs.Members.{in_at, in_insert_cases, in_remove_old}
use Rattle.chain.specs.Table.{cells, follow, lists, Chain, ends, Holds}
use Rattle.chain.proofs.Chain.{in_range, same_cells, two_stores, cell_at, insert_chain, remove_chain, reads}

-- The lists that are read, of any cells.
pub length_lists : (n c : ℕ) (s : List ℕ) → length (lists n c s) ≡ suc c
unfolding lists
length_lists n c s = ap suc (rw (length-map, length_ascending))

pub list_at : (n c : ℕ) (s : List ℕ) (k : ℕ) → 0 < k → k ≤ c → get_or (lists n c s) k [] ≡ follow n s (n + k)
unfolding lists
list_at n c s zero lo hi = absurd (omega arith)
list_at n c s (suc k) lo hi = let z : n + suc k ≡ suc n + k = omega arith in rw z (map_ascending_at (λ cell. follow n s cell) [] (suc n) c k hi)

pub list_none : (n c : ℕ) (s : List ℕ) → get_or (lists n c s) 0 [] ≡ []
unfolding lists
list_none n c s = refl

-- The lists that a table holds are those that are read.
pub lists_are : {n c : ℕ} {s : List ℕ} {L : List (List ℕ)} → Holds n c s L → lists n c s ≡ L
lists_are {n} {c} {s} {L} H = ext_get_or [] (lists n c s) L (length_lists n c s ∙ sym H.count) at
  where
    at : (k : ℕ) → k < length (lists n c s) → get_or (lists n c s) k [] ≡ get_or L k []
    at zero h = list_none n c s ∙ sym H.none
    at (suc k) h =
        let b : suc k ≤ c = let z = length_lists n c s in omega arith in
        list_at n c s (suc k) (omega arith) b ∙ reads (H.chain (suc k) (omega arith) b)

-- A cell of chain k: its head's, or that of a number in it.
abbrev pub CellOf : ℕ → List (List ℕ) → ℕ → ℕ → Type 0
CellOf n L k x = (x ≡ n + k) ⊎ In x (get_or L k [])

-- Beyond the lists there is nothing.
below_length : (L : List (List ℕ)) (k : ℕ) {x : ℕ} → In x (get_or L k []) → k < length L
below_length [] k i = absurd (Memᴰ.not-nil i)
below_length (l ∷ L) zero i = omega arith
below_length (l ∷ L) (suc k) i = let h = below_length L k i in omega arith

-- A number stands only in a chain of the table.
pub entry_range : (c : ℕ) (L : List (List ℕ)) → length L ≡ suc c → get_or L 0 [] ≡ [] → (k : ℕ) {x : ℕ} → In x (get_or L k []) → (0 < k) × (k ≤ c)
entry_range c L count none k {x} i = (go k i, let b = below_length L k i in omega arith)
  where
    go : (k : ℕ) → In x (get_or L k []) → 0 < k
    go zero i = absurd (Memᴰ.not-nil (rw none at i))
    go (suc k) i = omega arith

module _ {n c : ℕ} {s : List ℕ} {L : List (List ℕ)} (H : Holds n c s L) where
  pub chain_has : (k : ℕ) {x : ℕ} → In x (get_or L k []) → (0 < k) × (k ≤ c)
  chain_has = entry_range c L H.count H.none

  pub chain_at : (k : ℕ) {x : ℕ} → In x (get_or L k []) → Chain n s (n + k) (get_or L k [])
  chain_at k i = let b = chain_has k i in H.chain k b.0 b.1

  -- A number that stands in a chain is one of the table's.
  pub member_range : (k : ℕ) {x : ℕ} → In x (get_or L k []) → (0 < x) × (x ≤ n)
  member_range k i = in_range (chain_at k i) i

  -- Two chains have no cell in common.
  unlike : (j k : ℕ) {x y : ℕ} → j ≢ k → 0 < j → 0 < k → CellOf n L k x → CellOf n L j y → y ≡ x → ⊥
  unlike j k f lo lo' (inl a) (inl b) e = f (omega arith)
  unlike j k f lo lo' (inl a) (inr b) e = let r = member_range j b in omega arith
  unlike j k f lo lo' (inr a) (inl b) e = let r = member_range k a in omega arith
  unlike j k f lo lo' (inr a) (inr b) e = f (H.apart (Memᴰ.cast (sym e) b) a)

  -- One chain is another list now, and the cells of the others hold what they held.
  put : (k : ℕ) (s' l' : List ℕ) → 0 < k → k ≤ c → length s' ≡ length s → Chain n s' (n + k) l'
      → ((j x : ℕ) → j ≢ k → 0 < j → CellOf n L j x → get_or s' x 0 ≡ get_or s x 0)
      → ((j x : ℕ) → j ≢ k → In x l' → In x (get_or L j []) → ⊥)
      → Holds n c s' (set L k l')
  put k s' l' lo hi size new keep apart' = record {
    room = record { cells_count = size ∙ H.room.cells_count; keys_fit = H.room.keys_fit; heads_fit = H.room.heads_fit };
    count = length-set L k l' ∙ H.count;
    none = other 0 (omega arith) ∙ H.none;
    chain = λ j a b. at j a b (ℕ_discrete j k);
    apart = λ {j} {k = j'} {x} a b. two j j' x a b (ℕ_discrete j k) (ℕ_discrete j' k);
  }
    where
      there : get_or (set L k l') k [] ≡ l'
      there = get_or-set_same L k l' [] (let z = H.count in omega arith)

      other : (j : ℕ) → j ≢ k → get_or (set L k l') j [] ≡ get_or L j []
      other j f = get_or-set_other L k j l' [] f

      at : (j : ℕ) → 0 < j → j ≤ c → Dec (j ≡ k) → Chain n s' (n + j) (get_or (set L k l') j [])
      at j a b (yes e) = rw (e, there) new
      at j a b (no f) = rw (other j f) (same_cells (H.chain j a b) (keep j (n + j) f a (inl refl)) (λ x i. keep j x f a (inr i)))

      two : (j j' x : ℕ) → In x (get_or (set L k l') j []) → In x (get_or (set L k l') j' []) → Dec (j ≡ k) → Dec (j' ≡ k) → j ≡ j'
      two j j' x a b (yes e) (yes e') = e ∙ sym e'
      two j j' x a b (yes e) (no f) = absurd (apart' j' x f (rw (e, there) at a) (rw (other j' f) at b))
      two j j' x a b (no f) (yes e) = absurd (apart' j x f (rw (e, there) at b) (rw (other j f) at a))
      two j j' x a b (no f) (no f') = H.apart (rw (other j f) at a) (rw (other j' f') at b)

  -- The cell reached after i numbers is one of its chain's.
  pub cell_of : (k i : ℕ) → i ≤ length (get_or L k []) → CellOf n L k (cell_at (n + k) (get_or L k []) i)
  cell_of k zero h = inl refl
  cell_of k (suc i) h = inr (in_at 0 (get_or L k []) i h)

  module _ {k : ℕ} (lo : 0 < k) (hi : k ≤ c) where
    pub cell_fits : (i : ℕ) → i ≤ length (get_or L k []) → cell_at (n + k) (get_or L k []) i < cells
    cell_fits i h =
        let a = H.room.heads_fit in
        let b = H.room.keys_fit in
        ⊎_elim (λ e. omega arith) (λ m. let r = member_range k m in omega arith) (cell_of k i h)

    pub insert_holds : (i t : ℕ) → i ≤ length (get_or L k []) → 0 < t → t ≤ n → ((j : ℕ) → In t (get_or L j []) → ⊥)
        → Holds n c (set (set s t (get_or s (cell_at (n + k) (get_or L k []) i) 0)) (cell_at (n + k) (get_or L k []) i) t) (set L k (insert_at i t (get_or L k [])))
    insert_holds i t h pos top free =
        let p : ℕ = cell_at (n + k) (get_or L k []) i in
        let v : ℕ = get_or s p 0 in
        let a = H.room.heads_fit in
        put k (set (set s t v) p t) (insert_at i t (get_or L k [])) lo hi (simp length-set)
        (insert_chain i t (H.chain k lo hi) H.room.cells_count H.room.keys_fit (omega arith) h pos top (λ e. omega arith) (free k))
        (λ j x f low cell. two_stores s t p x v t
        (λ e. ⊎_elim (λ b. omega arith) (λ b. free j (Memᴰ.cast (sym e) b)) cell)
        (unlike j k f low lo (cell_of k i h) cell))
        (λ j x f a b. ⊎_elim (λ e. free j (Memᴰ.cast (sym e) b)) (λ m. f (H.apart b m)) (in_insert_cases i t (get_or L k []) a))

    pub remove_holds : (i : ℕ) → i < length (get_or L k [])
        → Holds n c (set s (cell_at (n + k) (get_or L k []) i) (get_or s (get_or (get_or L k []) i 0) 0)) (set L k (remove_at i (get_or L k [])))
    remove_holds i h =
        let p : ℕ = cell_at (n + k) (get_or L k []) i in
        let v : ℕ = get_or s (get_or (get_or L k []) i 0) 0 in
        let a = H.room.heads_fit in
        put k (set s p v) (remove_at i (get_or L k [])) lo hi (length-set s p v)
        (remove_chain i (H.chain k lo hi) H.room.cells_count H.room.keys_fit (omega arith) h)
        (λ j x f low cell. get_or-set_other s p x v 0 (unlike j k f low lo (cell_of k i (omega arith)) cell))
        (λ j x f a b. f (H.apart b (in_remove_old i (get_or L k []) a)))

    pub clear_holds : Holds n c (set s (n + k) 0) (set L k [])
    clear_holds =
        let a = H.room.heads_fit in
        let z = H.room.cells_count in
        put k (set s (n + k) 0) [] lo hi (length-set s (n + k) 0)
        (ends (get_or-set_same s (n + k) 0 0 (omega arith)))
        (λ j x f low cell. get_or-set_other s (n + k) x 0 0 (unlike j k f low lo (inl refl) cell))
        (λ j x f a b. Memᴰ.not-nil a)
