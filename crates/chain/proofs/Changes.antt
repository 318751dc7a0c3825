-- What the stores of each function do to the lists: by the laws of one changed chain, read back as the lists of the new cells.
use mathlib.Core.Path.{◌≡◌, sym, ap, ◌∙◌}
use mathlib.Core.List.{List, [], Memᴰ as In, tail, head_d}
use mathlib.Core.Logic.{◌≢◌}
use Prim.Native.Nat.{ℕ, ◌+◌, ◌<◌, ◌≤◌}
use native.Mathlib.Omega.{arith}
use lib.ListN.{length, get_or, set}
use lib.Seq.{set-get_or}
use Rattle.lists.specs.Lists.{remove_at, without, ahead}
use Rattle.lists.proofs.Reading.{first_at}
use Rattle.lists.proofs.Changes.{remove_first}
use Rattle.lists.proofs.Places.{at_ahead, ahead_in}
use Rattle.chain.specs.Table.{cells, follow, lists, chain_of, Chain, Holds}
use Rattle.chain.specs.Walks.{Walk, Reached, Sought, Found}
use Rattle.chain.specs.Changes.{HasChain, Changed, Insertable, Inserted, Popped, Removed}
use Rattle.chain.proofs.Chain.{cell_at, leads, at_end, holds_first}
use Rattle.chain.proofs.Table.{lists_are, list_at, member_range, insert_holds, remove_holds, clear_holds}
use Rattle.chain.proofs.Standing.{stands_there, stands_free}

-- What the cells hold is what is read of them.
changed : {n c k : ℕ} {s s' l : List ℕ} → Holds n c s' (set (lists n c s) k l) → Changed n c k s s' l
changed H = record { sound = rw (lists_are H) H; lists_are = lists_are H }

-- What is known of one chain of a sound table: its list, its head's cell, a walk from there.
module _ {n c k : ℕ} {s : List ℕ} (a : HasChain n c k s) where
  pub chain_is : Chain n s (n + k) (get_or (lists n c s) k [])
  chain_is = a.sound.chain k a.low a.high

  pub list_is : follow n s (n + k) ≡ get_or (lists n c s) k []
  list_is = sym (list_at n c s k a.low a.high)

  pub head_fits : n + k < cells
  head_fits = let h = a.sound.room.heads_fit in let g = a.high in omega arith

  pub walk_from_head : Walk n (n + k) s
  walk_from_head = record { cells_count = a.sound.room.cells_count; keys_fit = a.sound.room.keys_fit; cell_fits = head_fits; chain = rw list_is chain_is }

  pub first_is : get_or s (n + k) 0 ≡ head_d (get_or (lists n c s) k []) 0
  first_is = holds_first chain_is ∙ first_at 0 (get_or (lists n c s) k [])

  pub cleared : Changed n c k s (set s (n + k) 0) []
  cleared = changed (clear_holds a.sound a.low a.high)

  -- There is a first number.
  module _ {x : ℕ} (e : get_or s (n + k) 0 ≡ x) (f : x ≢ 0) where
    pub popped_cell : x < cells
    popped_cell = let h = (leads chain_is e f).in_table in let g = a.sound.room.keys_fit in omega arith

    pub popped : {y : ℕ} → y ≡ x → Popped n c k s (set s (n + k) (get_or s y 0)) x
    popped w =
        let q = (leads chain_is e f).split in
        let l : List ℕ = get_or (lists n c s) k [] in
        let y : x ≡ get_or l 0 0 = rw q in
        record { first_is = y ∙ first_at 0 l; changed = changed (rw (w, y, ← (remove_first l)) (remove_holds a.sound a.low a.high 0 (let z = ap length q in omega arith))) }

  -- There is none.
  pub popped_none : {x : ℕ} → get_or s (n + k) 0 ≡ x → x ≡ 0 → Popped n c k s s x
  unfolding head_d
  popped_none {x} e z =
      let q : get_or (lists n c s) k [] ≡ [] = at_end chain_is (e ∙ z) in
      record { first_is = rw q z; changed = record { sound = a.sound; lists_are = rw (none_left q) (sym (set-get_or (lists n c s) k [])) } }
    where
      none_left : get_or (lists n c s) k [] ≡ [] → tail (get_or (lists n c s) k []) ≡ get_or (lists n c s) k []
      none_left q = rw q

  pub reached_place : {at place : ℕ} → Reached n (n + k) s at place → place ≤ length (get_or (lists n c s) k [])
  reached_place r = rw list_is at r.place_fits

  pub reached_cell : {at place : ℕ} → Reached n (n + k) s at place → at ≡ cell_at (n + k) (get_or (lists n c s) k []) place
  reached_cell r = rw list_is at r.at_is

  module _ {x : ℕ} (e : chain_of x (lists n c s) ≡ k) where
    there : In x (get_or (lists n c s) k [])
    there = stands_there x k (lists n c s) e a.low

    pub removed_cell : x < cells
    removed_cell = let r = member_range a.sound k there in let h = a.sound.room.keys_fit in omega arith

    pub removed : {at place y : ℕ} → Found n (n + k) x s at place → y ≡ x → Removed n c k x s (set s at (get_or s y 0)) place
    unfolding without
    removed {at} {place} r w =
        let l : List ℕ = get_or (lists n c s) k [] in
        let p : place ≡ ahead x l = rw list_is at r.place_is in
        let b : place < length l = let h = ahead_in x l there in omega arith in
        let y : get_or l place 0 ≡ x = rw p (at_ahead x l (ahead_in x l there)) in
        let v : remove_at place l ≡ remove_at (ahead x l) l = ap (λ (i : ℕ). remove_at i l) p in
        record { place_is = p; changed = changed (rw (w, reached_cell r.reached) (rw (y, v) at (remove_holds a.sound a.low a.high place b))) }

module _ {n c k x : ℕ} {s key : List ℕ} (a : Insertable n c k x s key) where
  pub inserted : {limit at place y : ℕ} → Sought n (n + k) limit s key at place → y ≡ x → Inserted n c k x limit s key (set (set s y (get_or s at 0)) at x) place
  inserted {limit} {at} {place} r w =
      record {
        place_is = rw (list_is a.has) at r.place_is;
        at_the_end = λ z. rw (list_is a.has) at (r.at_the_end z);
        changed = changed (rw (w, reached_cell a.has r.reached)
            (insert_holds a.has.sound a.has.low a.has.high place x (reached_place a.has r.reached) a.positive a.in_table
            (stands_free a.has.sound x a.free)));
      }
