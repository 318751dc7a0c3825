-- The search for a number, chain by chain, finds its chain or passes all: by the cell at which the walk along one chain stops.
use mathlib.Core.Path.{◌≡◌, sym, ◌∙◌}
use mathlib.Core.List.{List, [], Memᴰ as In}
use mathlib.Core.Logic.{◌≢◌}
use Prim.Native.Nat.{ℕ, ◌+◌, ◌<◌, ◌≤◌}
use native.Mathlib.Omega.{arith}
use native.Mathlib.Decide.{ℕ_discrete, dec_lt}
use lib.ListN.{length, get_or, get_or-eq_default}
use Rattle.lists.specs.Lists.{ahead}
use Rattle.lists.proofs.Places.{at_ahead, ahead_in}
use Rattle.lists.proofs.Members.{in_at}
use Rattle.chain.specs.Table.{lists, chain_of, Sound}
use Rattle.chain.specs.Walks.{Found}
use Rattle.chain.specs.Changes.{HasChain, StandsIn}
use Rattle.chain.proofs.Chain.{holds_next}
use Rattle.chain.proofs.Table.{chain_has}
use Rattle.chain.proofs.Standing.{stands_in, stands_nowhere, stands_within}
use Rattle.chain.proofs.Changes.{chain_is, list_is, reached_place, reached_cell}

-- The number stands in none of the chains below k.
pub record NotBelow (n c k x : ℕ) (s : List ℕ) : Type 0 where
  pub positive : 0 < k
  pub not_in : (j : ℕ) → j < k → In x (get_or (lists n c s) j []) → ⊥

-- The next chain is one of the table's.
pub next_chain : {n c k x : ℕ} {s : List ℕ} → Sound n c s → NotBelow n c k x s → k ≤ c → HasChain n c k s
next_chain H b h = record { sound = H; low = b.positive; high = h }

-- All chains are passed.
pub searched_all : {n c k x : ℕ} {s : List ℕ} → Sound n c s → NotBelow n c k x s → c < k → chain_of x (lists n c s) ≡ 0
searched_all {n} {c} {x = x} {s} H b h = stands_nowhere x (lists n c s) (λ j i. let r = chain_has H j i in b.not_in j (omega arith) i)

-- What the search answers.
pub standing : {n c k x : ℕ} {s : List ℕ} → Sound n c s → chain_of x (lists n c s) ≡ k → StandsIn n c x s k
standing {x = x} H e = record { chain_is = sym e; high = rw (← e) (stands_within H x) }

module _ {n c k x : ℕ} {s : List ℕ} (a : HasChain n c k s) {at place : ℕ} (r : Found n (n + k) x s at place) where
  -- The cell at which the walk stops holds the number at its place.
  stops_at : get_or s at 0 ≡ get_or (get_or (lists n c s) k []) place 0
  stops_at = rw (reached_cell a r.reached) (holds_next place (chain_is a) (reached_place a r.reached))

  pub searched_here : 0 < x → get_or s at 0 ≡ x → chain_of x (lists n c s) ≡ k
  searched_here pos e = stands_in a.sound k (go (dec_lt place (length (get_or (lists n c s) k []))))
    where
      q : get_or (get_or (lists n c s) k []) place 0 ≡ x
      q = sym stops_at ∙ e

      go : Dec (place < length (get_or (lists n c s) k [])) → In x (get_or (lists n c s) k [])
      go (yes h) = rw (← q) (in_at 0 (get_or (lists n c s) k []) place h)
      go (no f) = absurd (let z = get_or-eq_default (get_or (lists n c s) k []) 0 {n = place} (omega arith) in let y = q in omega arith)

  pub not_below_more : get_or s at 0 ≢ x → NotBelow n c k x s → NotBelow n c (k + 1) x s
  not_below_more f b = record { positive = omega arith; not_in = λ j h. at_chain j h (ℕ_discrete j k) }
    where
      not_here : In x (get_or (lists n c s) k []) → ⊥
      not_here i =
          let l : List ℕ = get_or (lists n c s) k [] in
          let p : place ≡ ahead x l = rw (list_is a) at r.place_is in
          f (stops_at ∙ rw p (at_ahead x l (ahead_in x l i)))

      at_chain : (j : ℕ) → j < k + 1 → Dec (j ≡ k) → In x (get_or (lists n c s) j []) → ⊥
      at_chain j h (yes e) i = not_here (rw e at i)
      at_chain j h (no g) i = b.not_in j (omega arith) i
