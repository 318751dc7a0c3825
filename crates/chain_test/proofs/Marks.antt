-- The test of all chains is exact: a marking walk fails only where no chain of unmarked numbers stands, and the marks say where each stands.
use mathlib.Core.Path.{subst, ◌≡◌, refl, sym, ap, ◌∙◌}
use mathlib.Core.Bool.{Bool, true, false, true≢false}
use mathlib.Core.List.Memᴰ
use mathlib.Core.List.Memᴰ.{head as here}
use mathlib.Core.List.Memᴰ.{tail as there}
use mathlib.Core.List.{List, [], ◌∷◌, Memᴰ as In}
use mathlib.Core.Logic.{◌≢◌, ◌⊎◌, inl, inr, ⊎_elim}
use Prim.Native.Nat.{ℕ, zero, suc, ◌+◌, ◌-◌, ◌<◌, ◌≤◌}
use native.Mathlib.Omega.{arith}
use native.Mathlib.Nat.{add_assoc}
use native.Mathlib.Decide.{ℕ_discrete}
use lib.ListN.{length, get_or, set, length-set, replicate}
use lib.Seq.{get_or-set_same, get_or-set_other}
use Rattle.lists.specs.Tests.{Whether, holds, fails}
use Rattle.lists.proofs.Members.{is_one_of}
use Rattle.lists.proofs.Reading.{all_same}
use Rattle.chain.specs.Table.{key_cells, follow, lists, chain_of, Chain, ends, goes_on, Room, Sound}
use Rattle.chain.specs.Walks.{FourEmpty, Marking, Unmarked, mark_all, Marked, MarkTested}
use Rattle.chain.specs.Changes.{Tested}
use Rattle.chain.proofs.Chain.{in_range, no_loop, short, reads, leads}
use Rattle.chain.proofs.Table.{length_lists, list_at, list_none, entry_range}
use Rattle.chain.proofs.Standing.{stands_in, stands_nowhere}

-- Marks of a list of numbers.
marked_not : (marks l : List ℕ) (v x : ℕ) → (In x l → ⊥) → get_or (mark_all marks l v) x 0 ≡ get_or marks x 0
marked_not marks [] v x f = refl
marked_not marks (y ∷ l) v x f = marked_not (set marks y v) l v x (λ i. f (there i)) ∙ get_or-set_other marks y x v 0 (λ e. f (here e))

marked_in : (marks l : List ℕ) (v x : ℕ) → x < length marks → In x l → get_or (mark_all marks l v) x 0 ≡ v
marked_in marks [] v x h i = absurd (Memᴰ.not-nil i)
marked_in marks (y ∷ l) v x h i = go (is_one_of x l) (marked_in (set marks y v) l v x (rw length-set h)) (Memᴰ.cases_cons i)
  where
    go : {b : Bool} → Whether (In x l) b → (In x l → get_or (mark_all (set marks y v) l v) x 0 ≡ v) → (x ≡ y) ⊎ In x l → get_or (mark_all (set marks y v) l v) x 0 ≡ v
    go (holds j) r o = r j
    go (fails f) r (inl e) = marked_not (set marks y v) l v x f ∙ rw e (get_or-set_same marks y v 0 (rw (← e) h))
    go (fails f) r (inr j) = r j

-- What each step of the walk has found.
module _ {n cell v left : ℕ} {s marks : List ℕ} (w : Marking n cell v s marks) {next : ℕ} (e : get_or s cell 0 ≡ next) where
  pub mark_end : next ≡ 0 → MarkTested n cell v left s marks marks true
  mark_end z =
      let c : Chain n s cell [] = ends (e ∙ z) in
      let q = reads c in
      record {
        size = refl;
        if_true = λ _. record { chain = rw q c; unmarked = λ x i. absurd (Memᴰ.not-nil (rw q at i)); marks_are = rw q };
        if_false = λ b. absurd (true≢false b);
      }

  -- Where no such chain stands, the answer is false.
  mark_fails : ((l : List ℕ) → Chain n s cell l → length l ≤ left → Unmarked marks l → ⊥) → MarkTested n cell v left s marks marks false
  mark_fails h = record { size = refl; if_true = λ b. absurd (true≢false (sym b)); if_false = λ b. h }

  module _ (f : next ≢ 0) where
    pub mark_met : get_or marks next 0 ≢ 0 → MarkTested n cell v left s marks marks false
    mark_met z = mark_fails λ l c h u. z (u next (rw (leads c e f).split (here refl)))

    pub mark_on : {marks' : List ℕ} {answer : Bool} → next ≤ n → get_or marks next 0 ≡ 0 → 0 < left
        → MarkTested n next v (left - 1) s (set marks next v) marks' answer → MarkTested n cell v left s marks marks' answer
    mark_on {marks'} top z pos a = record { size = a.size ∙ length-set marks next v; if_true = λ b. found (a.if_true b); if_false = λ b. none (a.if_false b) }
      where
        -- A chain doesn't come back to a number, so the new mark changes nothing further on.
        further : {l : List ℕ} → Chain n s next l → (x : ℕ) → In x l → get_or (set marks next v) x 0 ≡ get_or marks x 0
        further c x i = get_or-set_other marks next x v 0 (λ d. no_loop c (Memᴰ.cast (sym d) i))

        found : Marked n next v s (set marks next v) marks' → Marked n cell v s marks marks'
        found m =
            let c : Chain n s cell (next ∷ follow n s next) = goes_on e (omega arith) top m.chain in
            let q : follow n s cell ≡ next ∷ follow n s next = reads c in
            record {
              chain = rw q c;
              unmarked = λ x i. ⊎_elim (λ d. rw d z) (λ j. sym (further m.chain x j) ∙ m.unmarked x j) (Memᴰ.cases_cons (rw q at i));
              marks_are = rw q m.marks_are;
            }

        none : ((l : List ℕ) → Chain n s next l → length l ≤ left - 1 → Unmarked (set marks next v) l → ⊥)
            → (l : List ℕ) → Chain n s cell l → length l ≤ left → Unmarked marks l → ⊥
        none h l c len u =
            let g = leads c e f in
            let k = ap length g.split in
            h (follow n s next) g.chain (omega arith) (λ x i. further g.chain x i ∙ u x (rw g.split (there i)))

-- The chains below k are chains, and the marks say which numbers stand in which of them.
pub record MarkedBelow (numbers k : ℕ) (s marks : List ℕ) : Type 0 where
  pub size : length marks ≡ key_cells
  pub chain : (j : ℕ) → 0 < j → j < k → Chain numbers s (numbers + j) (follow numbers s (numbers + j))
  pub marked : {j x : ℕ} → 0 < j → j < k → In x (follow numbers s (numbers + j)) → get_or marks x 0 ≡ j
  pub stands : {j x : ℕ} → 0 < j → get_or marks x 0 ≡ j → (j < k) × In x (follow numbers s (numbers + j))

-- No chain is tested yet, and nothing is marked.
pub marked_below_none : (n : ℕ) {s marks : List ℕ} → marks ≡ replicate key_cells 0 → MarkedBelow n 1 s marks
marked_below_none n {marks = marks} e = record {
  size = rw e;
  chain = λ j lo hi. absurd (omega arith);
  marked = λ lo hi i. absurd (omega arith);
  stands = λ {j} {x} lo q. absurd (let z : get_or marks x 0 ≡ 0 = rw e (all_same 0 key_cells x) in omega arith);
}

-- One chain more.
pub marked_below_more : {n k : ℕ} {s marks marks' : List ℕ} → 0 < k → n < key_cells → MarkedBelow n k s marks → MarkTested n (n + k) k n s marks marks' true → MarkedBelow n (k + 1) s marks'
marked_below_more {n} {k} {s} {marks} {marks'} pos fit b a = record {
  size = a.size ∙ b.size;
  chain = λ j lo hi. ch j lo hi (ℕ_discrete j k);
  marked = λ {j} {x} lo hi i. mk j x lo hi i (ℕ_discrete j k);
  stands = λ {j} {x} lo q. st j x lo q (is_one_of x (follow n s (n + k)));
}
  where
    m : Marked n (n + k) k s marks marks'
    m = a.if_true refl

    inside : (x : ℕ) → In x (follow n s (n + k)) → get_or marks' x 0 ≡ k
    inside x i =
        let z = b.size in
        let r = in_range m.chain i in
        rw m.marks_are (marked_in marks (follow n s (n + k)) k x (omega arith) i)

    outside : (x : ℕ) → (In x (follow n s (n + k)) → ⊥) → get_or marks' x 0 ≡ get_or marks x 0
    outside x f = rw m.marks_are (marked_not marks (follow n s (n + k)) k x f)

    ch : (j : ℕ) → 0 < j → j < k + 1 → Dec (j ≡ k) → Chain n s (n + j) (follow n s (n + j))
    ch j lo hi (yes e) = rw e m.chain
    ch j lo hi (no f) = b.chain j lo (omega arith)

    mk : (j x : ℕ) → 0 < j → j < k + 1 → In x (follow n s (n + j)) → Dec (j ≡ k) → get_or marks' x 0 ≡ j
    mk j x lo hi i (yes e) = rw e (inside x (rw e at i))
    mk j x lo hi i (no f) =
        let t = b.marked lo (omega arith) i in
        outside x (λ o. let z = m.unmarked x o in omega arith) ∙ t

    st : {c : Bool} (j x : ℕ) → 0 < j → get_or marks' x 0 ≡ j → Whether (In x (follow n s (n + k))) c → (j < k + 1) × In x (follow n s (n + j))
    st j x lo q (holds i) = let z : j ≡ k = let y = inside x i in omega arith in (omega arith, rw z i)
    st j x lo q (fails f) = let r = b.stands lo (sym (outside x f) ∙ q) in (let y = r.0 in omega arith, r.1)

-- Four chains more, all of them empty.
pub marked_below_four : {n c k : ℕ} {s marks : List ℕ} → Room n c s → 0 < k → MarkedBelow n k s marks → FourEmpty n c k s → MarkedBelow n (k + 4) s marks
marked_below_four {n} {c} {k} {s} {marks} t pos b four =
    let w = four.within in
    let one = empty_more k pos (omega arith) b four.first in
    let two = empty_more (k + 1) (omega arith) (omega arith) one (rw (add_assoc n k 1) at four.second) in
    let three = empty_more (k + 2) (omega arith) (omega arith) (subst (λ j. MarkedBelow n j s marks) (add_assoc k 1 1) two) (rw (add_assoc n k 2) at four.third) in
    let all = empty_more (k + 3) (omega arith) (omega arith) (subst (λ j. MarkedBelow n j s marks) (add_assoc k 2 1) three) (rw (add_assoc n k 3) at four.fourth) in
    subst (λ j. MarkedBelow n j s marks) (add_assoc k 3 1) all
  where
    empty_more : (j : ℕ) → 0 < j → j ≤ c → MarkedBelow n j s marks → get_or s (n + j) 0 ≡ 0 → MarkedBelow n (j + 1) s marks
    empty_more j lo hi m e =
        let h = t.heads_fit in
        let w : Marking n (n + j) j s marks = record { cells_count = t.cells_count; marks_count = m.size; keys_fit = t.keys_fit; cell_fits = omega arith; mark_positive = lo } in
        marked_below_more lo t.keys_fit m (mark_end w e refl)

-- All chains are tested.
pub tested_true : {n c : ℕ} {s marks : List ℕ} → Room n c s → MarkedBelow n (c + 1) s marks → Tested n c s marks true
tested_true {n} {c} {s} {marks} t b = record { exact = holds sound'; size = b.size; standing_is = λ _ x. stand x (get_or marks x 0) refl; as_lent = λ e. absurd (true≢false e) }
  where
    range : (j : ℕ) {x : ℕ} → In x (get_or (lists n c s) j []) → (0 < j) × (j ≤ c)
    range = entry_range c (lists n c s) (length_lists n c s) (list_none n c s)

    mark_of : (j : ℕ) {x : ℕ} → In x (get_or (lists n c s) j []) → get_or marks x 0 ≡ j
    mark_of j i = let r = range j i in b.marked r.0 (let h = r.1 in omega arith) (rw (list_at n c s j r.0 r.1) at i)

    sound' : Sound n c s
    sound' = record {
      room = t;
      count = length_lists n c s;
      none = list_none n c s;
      chain = λ k lo hi. rw (list_at n c s k lo hi) (b.chain k lo (omega arith));
      apart = λ {j} {k} x y. sym (mark_of j x) ∙ mark_of k y;
    }

    stand : (x v : ℕ) → get_or marks x 0 ≡ v → get_or marks x 0 ≡ chain_of x (lists n c s)
    stand x zero e = e ∙ sym (stands_nowhere x (lists n c s) (λ j i. let q = mark_of j i in let r = range j i in omega arith))
    stand x (suc j) e =
        let r = b.stands (omega arith) e in
        let h = r.0 in
        e ∙ sym (stands_in sound' (suc j) (rw (list_at n c s (suc j) (omega arith) (omega arith)) r.1))

-- A chain fails the test.
pub tested_false : {n c k : ℕ} {s marks marks' : List ℕ} → 0 < k → k ≤ c → MarkedBelow n k s marks → MarkTested n (n + k) k n s marks marks' false
    → Tested n c s (replicate key_cells 0) false
tested_false {n} {c} {k} {s} {marks} lo hi b a = record { exact = fails not_sound; size = refl; standing_is = λ e. absurd (true≢false (sym e)); as_lent = λ _. refl }
  where
    unmarked : Sound n c s → (x : ℕ) → In x (get_or (lists n c s) k []) → (v : ℕ) → get_or marks x 0 ≡ v → v ≡ 0
    unmarked H x i zero e = refl
    unmarked H x i (suc j) e =
        let r = b.stands (omega arith) e in
        let h = r.0 in
        let q : suc j ≡ k = H.apart (rw (list_at n c s (suc j) (omega arith) (omega arith)) r.1) i in
        absurd (omega arith)

    not_sound : Sound n c s → ⊥
    not_sound H =
        let d = H.chain k lo hi in
        a.if_false refl (get_or (lists n c s) k []) d (short d) (λ x i. unmarked H x i (get_or marks x 0) refl)
