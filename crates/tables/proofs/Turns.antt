-- The turns of a walk over two lent tables, one of calls and one of answers: for any types of state, call and answer.
use mathlib.Core.List.{List, [], ◌∷◌}
use Prim.Native.Nat.{ℕ, suc, ◌+◌, ◌<◌, ◌≤◌}
use native.Mathlib.Numerals.{add-one}
use lib.ListN.{length, get_or, set, drop, drop_of_length-le}
use lib.Seq.{drop-cons}

-- `One s d s' n`: a call d on the state s leaves s' and answers n. `Rest One i s ds ys s' ys'`: the calls ds, the first one's answer going to cell i, make s and
-- the cells ys into s' and ys'.
pub data Rest {S D N : Type 0} (One : S → D → S → N → Type 0) : ℕ → S → List D → List N → S → List N → Type 0 where
  over : {i : ℕ} {s : S} {ys : List N} → Rest One i s [] ys s ys
  turn : {i : ℕ} {s s' s'' : S} {d : D} {ds : List D} {n : N} {ys zs : List N} → One s d s' n → Rest One (suc i) s' ds (set ys i n) s'' zs → Rest One i s (d ∷ ds) ys s'' zs

-- Call i, and those behind it.
pub next_turn : {S D N : Type 0} (One : S → D → S → N → Type 0) (i : ℕ) {s s' s'' : S} (n : N) (ys : List N) {zs : List N} (cs : List D) (e : D) → i < length cs → One s (get_or cs i e) s' n
    → Rest One (i + 1) s' (drop (i + 1) cs) (set ys i n) s'' zs → Rest One i s (drop i cs) ys s'' zs
next_turn One i n ys cs e l o rest = rw (drop-cons cs i e l) (turn o (rw add-one at rest))

-- No call is left.
pub none_left : {S D N : Type 0} (One : S → D → S → N → Type 0) (i : ℕ) (s : S) (ys : List N) (cs : List D) → length cs ≤ i → Rest One i s (drop i cs) ys s ys
none_left One i s ys cs l = rw (drop_of_length-le cs l) over
