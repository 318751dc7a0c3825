-- Turns one after the other: the first of those that are left, the last, and the calls as a table has them.
use mathlib.Core.List.{List, [], ◌∷◌, ◌++◌}
use Prim.Native.Nat.{ℕ, ◌+◌, ◌<◌}
use native.Mathlib.Numerals.{add-one}
use lib.ListN.{length, get_or, set, drop, take}
use lib.Seq.{drop-cons}
use Rattle.std.proofs.Common.{Result, ◌≡◌, ◌∙◌, sym, ap, arith, take-append-drop}
use Rattle.std.proofs.lemmas.List.{take_more, length-take-le}
use Rattle.thin.specs.Turns.{Begins, ComesTo}
pub use Rattle.thin.specs.Turns.{Rest, over, turn}

-- One turn more, behind those that were made. Its answer goes to the cell at k.
pub one_more : {S D N : Type 0} {One : S → D → S → N → Type 0} {i : ℕ} {s s' s'' : S} {ds : List D} {d : D} {n : N} {ys zs : List N} (k : ℕ) → Rest One i s ds ys s' zs → k ≡ i + length ds → One s' d s'' n
    → Rest One i s (ds ++ (d ∷ [])) ys s'' (set zs k n)
one_more {i = i} k over is o = let same : k ≡ i = omega arith in rw same (turn o over)
one_more k (turn first rest) is o = turn first (one_more k rest (omega arith) o)

-- The call at i, among those before and behind it.
among : {D : Type 0} (cs : List D) (i : ℕ) (e : D) → i < length cs → e ≡ get_or cs i e → cs ≡ take i cs ++ (e ∷ drop (i + 1) cs)
among cs i e l is = sym (take-append-drop i cs) ∙ ap (λ rest. take i cs ++ rest) (rw add-one (rw (← is) at (drop-cons cs i e l)))

-- The same where the calls are the first i of a table, and the call is the next.
pub one_more_call : {S D N : Type 0} {One : S → D → S → N → Type 0} {s s' s'' : S} {n : N} {ys zs : List N} (cs : List D) (i : ℕ) (e : D) → i < length cs → e ≡ get_or cs i e → Rest One 0 s (take i cs) ys s' zs → One s' e s'' n
    → Rest One 0 s (take (i + 1) cs) ys s'' (set zs i n)
one_more_call cs i e l is made o = rw (take_more cs i e l) (rw (← is) (one_more i made (let taken : length (take i cs) ≡ i = length-take-le i cs (omega arith) in omega arith) o))

-- So the walk comes to the call at i.
pub comes_to : {T S D N C R : Type 0} {Reads : T → S → Type 0} {Tests : S → ℕ → ℕ → Result C R → Type 0} {before : T} {calls : List D} {cells : List N} {One : S → D → S → N → Type 0}
    {first s : S} {code : C} {given : List N} (i : ℕ) (e : D) → Begins Reads Tests before calls cells first code → i < length calls → e ≡ get_or calls i e → Rest One 0 first (take i calls) cells s given
    → ComesTo Reads Tests before calls cells One s e
comes_to {calls = calls} i e begins more is turns =
    record { first = _; code = _; begins = begins; done = take i calls; left = drop (i + 1) calls; in_order = among calls i e more is; given = _; turns = turns }

-- What turns keep true stays true over all of them, and then they are turns of whatever each of them is while that is true.
pub kept : {S D N : Type 0} (One Other : S → D → S → N → Type 0) (Fit : S → Type 0) → ((s : S) (d : D) (s' : S) (n : N) → Fit s → One s d s' n → Other s d s' n × Fit s')
    → {i : ℕ} {s s' : S} {ds : List D} {ys zs : List N} → Fit s → Rest One i s ds ys s' zs → Rest Other i s ds ys s' zs × Fit s'
kept One Other Fit keeps fit over = (over, fit)
kept One Other Fit keeps fit (turn {s = s} {s' = s'} {d = d} {n = n} first rest) =
    let here = keeps s d s' n fit first in
    let behind = kept One Other Fit keeps here.1 rest in
    (turn here.0 behind.0, behind.1)

-- A walk comes to each call with such a state, where it begins with one.
pub comes_fit : {T S D N C R : Type 0} {Reads : T → S → Type 0} {Tests : S → ℕ → ℕ → Result C R → Type 0} {before : T} {calls : List D} {cells : List N} (One : S → D → S → N → Type 0) (Fit : S → Type 0)
    → ((s : S) (code : C) → Begins Reads Tests before calls cells s code → Fit s) → ((s : S) (d : D) (s' : S) (n : N) → Fit s → One s d s' n → Fit s')
    → (s : S) (d : D) → ComesTo Reads Tests before calls cells One s d → Fit s
comes_fit One Fit begins keeps s d here = (kept One One Fit (λ s d s' n fit one. (one, keeps s d s' n fit one)) (begins here.first here.code here.begins) here.turns).1
