-- Laws for callers: what a list has, where numbers stand after each function, where a newcomer is put, the key of a free number. By the changed list alone.
use mathlib.Core.Path.{◌≡◌, refl, sym, ap, ◌∙◌}
use mathlib.Core.Bool.{Bool, cond}
use mathlib.Core.List.Memᴰ
use mathlib.Core.List.Memᴰ.{head as here}
use mathlib.Core.List.Memᴰ.{tail as there}
use mathlib.Core.List.{List, [], ◌∷◌, ◌++◌, tail, head_d, Memᴰ as In}
use mathlib.Core.Logic.{◌≢◌, ⊎_elim}
use Prim.Native.Nat.{ℕ, suc, ◌<◌, ◌≤◌}
use native.Mathlib.Omega.{arith}
use lib.Dec.{eqb}
use lib.ListN.{length, get_or, set, length-map}
use lib.Seq.{get_or-set_other}
use Rattle.lists.specs.Lists.{Once, remove_at, ahead, without}
use Rattle.lists.specs.Tests.{Whether, holds, fails}
use Rattle.lists.proofs.Tests.{is_eqb}
use Rattle.lists.proofs.Members.{in_at, in_inserted, in_insert_old, in_insert_cases, in_remove_old, in_remove_other}
use Rattle.lists.proofs.Once.{once_removed}
use Rattle.lists.proofs.Reading.{first_at}
use Rattle.lists.proofs.Changes.{remove_first, length_insert, insert_at_end}
use Rattle.lists.proofs.Places.{at_ahead, ahead_in, passed_within}
use Rattle.chain.specs.Table.{lists, Sound, chain_of, keys_of}
use Rattle.chain.specs.Changes.{HasChain, Changed, Insertable, Inserted, Popped, Removed}
use Rattle.chain.specs.declared.Chains.{Chains}
use Rattle.chain.proofs.Chain.{chain_once, short, in_range}
use Rattle.chain.proofs.Table.{member_range}
use Rattle.chain.proofs.Standing.{stands_in, stands_there, stands_nowhere, stands_free, new_list, standing_new, standing_none, standing_same}
use Rattle.chain.proofs.Changes.{chain_is}

-- A change that leaves the keys is one of the links.
pub only_links : (new : Chains) {keys : List ℕ} → new.key ≡ keys → new ≡ record { link = new.link; key = keys }
only_links new e = ap (λ (key : List ℕ). record { link = new.link; key = key }) e

-- A chain has each number once, and only numbers of the table.
module _ {n c k : ℕ} {s : List ℕ} (a : HasChain n c k s) where
  pub list_once : Once (get_or (lists n c s) k [])
  list_once = chain_once (chain_is a)

  pub list_short : length (get_or (lists n c s) k []) ≤ n
  list_short = short (chain_is a)

  pub list_range : {x : ℕ} → In x (get_or (lists n c s) k []) → (0 < x) × (x ≤ n)
  list_range = in_range (chain_is a)

-- A number put in stands in its chain, and all others where they stood.
pub inserted_standing : {n c k x limit : ℕ} {s key s' : List ℕ} {place : ℕ} → Insertable n c k x s key → Inserted n c k x limit s key s' place
    → (y : ℕ) → chain_of y (lists n c s') ≡ cond (eqb y x) k (chain_of y (lists n c s))
inserted_standing {n} {c} {k} {x} {s = s} {s' = s'} {place} a r y = go (is_eqb y x)
  where
    l : List ℕ
    l = get_or (lists n c s) k []

    go : {b : Bool} → Whether (y ≡ x) b → chain_of y (lists n c s') ≡ cond b k (chain_of y (lists n c s))
    go (holds e) = rw e (standing_new a.has r.changed (in_inserted place x l))
    go (fails f) = standing_same a.has r.changed y (λ i. ⊎_elim (λ e. absurd (f e)) (λ o. o) (in_insert_cases place x l i)) (in_insert_old place x)

zero_nowhere : {n c k : ℕ} {s : List ℕ} → HasChain n c k s → chain_of 0 (lists n c s) ≡ 0
zero_nowhere {n} {c} {s = s} a = stands_nowhere 0 (lists n c s) (λ j i. let r = member_range a.sound j i in omega arith)

-- The number that is taken out stands nowhere, and all others where they stood.
module _ {n c k : ℕ} {s s' : List ℕ} (a : HasChain n c k s) where
  taken_standing : (i : ℕ) {l' : List ℕ} → i < length (get_or (lists n c s) k []) → l' ≡ remove_at i (get_or (lists n c s) k []) → Changed n c k s s' l'
      → (y : ℕ) → chain_of y (lists n c s') ≡ cond (eqb y (get_or (get_or (lists n c s) k []) i 0)) 0 (chain_of y (lists n c s))
  taken_standing i h e d y = go (is_eqb y (get_or l i 0))
    where
      l : List ℕ
      l = get_or (lists n c s) k []

      go : {b : Bool} → Whether (y ≡ get_or l i 0) b → chain_of y (lists n c s') ≡ cond b 0 (chain_of y (lists n c s))
      go (holds q) = rw q (standing_none a d (in_at 0 l i h) (λ m. once_removed i (list_once a) h (rw e at m)))
      go (fails f) = standing_same a d y (λ m. in_remove_old i l (rw e at m)) (λ m. rw e (in_remove_other 0 i f m))

  pub removed_standing : {x place : ℕ} → chain_of x (lists n c s) ≡ k → Removed n c k x s s' place
      → (y : ℕ) → chain_of y (lists n c s') ≡ cond (eqb y x) 0 (chain_of y (lists n c s))
  unfolding without
  removed_standing {x} e r y =
      let l : List ℕ = get_or (lists n c s) k [] in
      let h = ahead_in x l (stands_there x k (lists n c s) e a.low) in
      rw (at_ahead x l h) at (taken_standing (ahead x l) h refl r.changed y)

  -- Of an empty chain 0 is popped, which stands nowhere.
  pub popped_standing : {x : ℕ} → Popped n c k s s' x → (y : ℕ) → chain_of y (lists n c s') ≡ cond (eqb y x) 0 (chain_of y (lists n c s))
  popped_standing {x} r y = go (get_or (lists n c s) k []) refl
    where
      x_is : x ≡ get_or (get_or (lists n c s) k []) 0 0
      x_is = r.first_is ∙ sym (first_at 0 (get_or (lists n c s) k []))

      same : get_or (lists n c s) k [] ≡ [] → chain_of y (lists n c s') ≡ chain_of y (lists n c s)
      same e = standing_same a r.changed y (λ m. absurd (Memᴰ.not-nil (rw e at m))) (λ m. absurd (Memᴰ.not-nil (rw e at m)))

      nothing : get_or (lists n c s) k [] ≡ [] → {b : Bool} → Whether (y ≡ x) b → chain_of y (lists n c s') ≡ cond b 0 (chain_of y (lists n c s))
      nothing e (holds q) =
          let z : x ≡ 0 = x_is ∙ ap (λ (l : List ℕ). get_or l 0 0) e in
          same e ∙ rw (q, z) (zero_nowhere a)
      nothing e (fails f) = same e

      go : (l : List ℕ) → get_or (lists n c s) k [] ≡ l → chain_of y (lists n c s') ≡ cond (eqb y x) 0 (chain_of y (lists n c s))
      go [] e = nothing e (is_eqb y x)
      go (z ∷ l) e = rw x_is (taken_standing 0 (let q = ap length e in omega arith) (sym (remove_first (get_or (lists n c s) k []))) r.changed y)

  -- All numbers of an emptied chain stand nowhere, and all others where they stood.
  pub cleared_standing : Changed n c k s s' [] → (y : ℕ) → chain_of y (lists n c s') ≡ cond (eqb (chain_of y (lists n c s)) k) 0 (chain_of y (lists n c s))
  cleared_standing d y = go (is_eqb (chain_of y (lists n c s)) k)
    where
      go : {b : Bool} → Whether (chain_of y (lists n c s) ≡ k) b → chain_of y (lists n c s') ≡ cond b 0 (chain_of y (lists n c s))
      go (holds e) = standing_none a d (stands_there y k (lists n c s) e a.low) Memᴰ.not-nil
      go (fails f) = standing_same a d y (λ i. absurd (Memᴰ.not-nil i)) (λ i. absurd (f (stands_in a.sound k i)))

-- Where there is a first number, a pop leaves the chain shorter.
pub popped_shorter : {n c k : ℕ} {s s' : List ℕ} {x : ℕ} → HasChain n c k s → Popped n c k s s' x → x ≢ 0
    → length (get_or (lists n c s') k []) < length (get_or (lists n c s) k [])
unfolding head_d
popped_shorter {n} {c} {k} {s} a r f = rw (new_list a r.changed) (shorter (get_or (lists n c s) k []) (λ z. f (r.first_is ∙ z)))
  where
    shorter : (l : List ℕ) → head_d l 0 ≢ 0 → length (tail l) < length l
    shorter [] g = absurd (g refl)
    shorter (y ∷ l) g = omega arith

-- Where a newcomer is put.
module _ {n c k x limit : ℕ} {s key s' : List ℕ} {place : ℕ} (r : Inserted n c k x limit s key s' place) where
  -- Behind all others it is appended.
  pub inserted_last : place ≡ length (get_or (lists n c s) k []) → Changed n c k s s' (get_or (lists n c s) k [] ++ x ∷ [])
  inserted_last e = rw (e, insert_at_end) at r.changed

  -- Others stand ahead of it, so its place is below the table's numbers.
  pub inserted_place : HasChain n c k s → place < n
  unfolding keys_of
  inserted_place a =
      let l : List ℕ = get_or (lists n c s) k [] in
      let b : HasChain n c k s' = record { sound = r.changed.sound; low = a.low; high = a.high } in
      let h : suc (length l) ≤ n = rw (new_list a r.changed, length_insert) at (list_short b) in
      let p : place ≤ length l = rw r.place_is (simp length-map at (passed_within limit (keys_of key l))) in
      omega arith

-- A new key for a number outside a list leaves the keys of the list.
keys_other : (key : List ℕ) (x v : ℕ) (l : List ℕ) → (In x l → ⊥) → keys_of (set key x v) l ≡ keys_of key l
unfolding keys_of
keys_other key x v [] f = refl
keys_other key x v (y ∷ l) f = cc (get_or-set_other key x y v 0 (λ e. f (here (sym e))), keys_other key x v l (λ m. f (there m)))

-- So the key of a number that stands nowhere may be set before it is put in.
pub keys_of_free : {n c : ℕ} {s : List ℕ} → Sound n c s → (key : List ℕ) (x v : ℕ) → chain_of x (lists n c s) ≡ 0
    → (k : ℕ) → keys_of (set key x v) (get_or (lists n c s) k []) ≡ keys_of key (get_or (lists n c s) k [])
keys_of_free {n} {c} {s} H key x v e k = keys_other key x v (get_or (lists n c s) k []) (stands_free H x e k)
