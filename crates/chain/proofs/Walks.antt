-- What a walk along a chain knows at each step, and what it has found where it stops. By reading the cell that it has come to.
use mathlib.Core.Path.{◌≡◌, refl, sym, ap, ◌∙◌}
use mathlib.Core.Bool.{Bool, true, false, true≢false}
use mathlib.Core.List.{List, [], ◌∷◌}
use mathlib.Core.Logic.{◌≢◌}
use Prim.Native.Nat.{ℕ, suc, ◌+◌, ◌<◌, ◌≤◌}
use native.Mathlib.Numerals.{add-one}
use native.Mathlib.Omega.{arith}
use lib.ListN.{length, get_or, drop, length-drop}
use lib.Seq.{get_or-drop, drop-drop}
use borrow.Author.Tests.{leb-true, leb-false, lt-leb, le-leb, eq-eqb, ne_eqb}
use Rattle.lists.specs.Lists.{ahead, passed}
use Rattle.chain.specs.Table.{key_cells, every_key, follow, keys_of}
use Rattle.chain.specs.Walks.{Walk, Reached, Passes, Sought, Found}
use Rattle.chain.proofs.Chain.{short, at_end, leads}

-- One step from a cell that holds a number.
module _ {n cell : ℕ} {s : List ℕ} (w : Walk n cell s) {next : ℕ} (e : get_or s cell 0 ≡ next) where
  pub stops : next ≡ 0 → follow n s cell ≡ []
  stops z = at_end w.chain (e ∙ z)

  module _ (f : next ≢ 0) where
    pub splits : follow n s cell ≡ next ∷ follow n s next
    splits = (leads w.chain e f).split

    pub has_key : next < key_cells
    has_key = let h = (leads w.chain e f).in_table in let k = w.keys_fit in omega arith

    pub walk_on : Walk n next s
    walk_on =
        let h = has_key in
        record { cells_count = w.cells_count; keys_fit = w.keys_fit; cell_fits = omega arith; chain = (leads w.chain e f).chain }

    -- What is left is shorter.
    pub shorter : length (follow n s next) < length (follow n s cell)
    shorter = let h = ap length splits in omega arith

module _ {n head : ℕ} {s : List ℕ} {at place : ℕ} (r : Reached n head s at place) where
  -- No place is beyond the table's numbers.
  pub place_small : Walk n head s → place ≤ n
  place_small w = let a = r.place_fits in let b = short w.chain in omega arith

  pub reached_next : {next : ℕ} → get_or s at 0 ≡ next → next ≢ 0 → Reached n head s next (place + 1)
  reached_next {next} e f =
      let l : List ℕ = follow n s head in
      let q : drop place l ≡ next ∷ follow n s next = r.left ∙ splits r.walk e f in
      let h = ap length q in
      let d = length-drop place l in
      let z : place + 0 ≡ place = omega arith in
      record {
        walk = walk_on r.walk e f;
        place_fits = omega arith;
        at_is = rw add-one (sym (ap (λ (k : List ℕ). get_or k 0 0) q) ∙ get_or-drop place l 0 0 ∙ ap (λ (i : ℕ). get_or l i 0) z);
        left = sym (drop-drop 1 place l) ∙ ap (λ (k : List ℕ). drop 1 k) q;
      }

  -- At the chain's end all are passed.
  pub reached_end : follow n s at ≡ [] → place ≡ length (follow n s head)
  reached_end z =
      let h = ap length (r.left ∙ z) in
      let d = length-drop place (follow n s head) in
      let p = r.place_fits in
      omega arith

-- A walk that counts numbers up to the first at which it stops: those counted and those still to be counted make the count of the whole chain.
pub record Counting (count : List ℕ → ℕ) (n head : ℕ) (s : List ℕ) (at place next : ℕ) : Type 0 where
  pub reached : Reached n head s at place
  pub next_is : get_or s at 0 ≡ next
  pub counted : place + count (follow n s at) ≡ count (follow n s head)

module _ {count : List ℕ → ℕ} {n head : ℕ} {s : List ℕ} {at place next : ℕ} (k : Counting count n head s at place next) where
  counted_end : count [] ≡ 0 → next ≡ 0 → place ≡ count (follow n s head)
  counted_end z e =
      let p : place + count [] ≡ count (follow n s head) = rw (stops k.reached.walk k.next_is e) at k.counted in
      omega arith

  module _ (f : next ≢ 0) where
    counted_split : place + count (next ∷ follow n s next) ≡ count (follow n s head)
    counted_split = rw (splits k.reached.walk k.next_is f) at k.counted

    counted_stop : count (next ∷ follow n s next) ≡ 0 → place ≡ count (follow n s head)
    counted_stop h = let q = counted_split in omega arith

    counting_next : {next' : ℕ} → count (next ∷ follow n s next) ≡ suc (count (follow n s next)) → get_or s next 0 ≡ next' → Counting count n head s next (place + 1) next'
    counting_next h e = let q = counted_split in record { reached = reached_next k.reached k.next_is f; next_is = e; counted = omega arith }

-- How many keys a limit passes.
module _ (key : List ℕ) (limit x : ℕ) (l : List ℕ) where
  passed_stop : limit < get_or key x 0 → passed limit (keys_of key (x ∷ l)) ≡ 0
  unfolding passed keys_of
  passed_stop h = rw (lt-leb (get_or key x 0) limit h)

  passed_more : get_or key x 0 ≤ limit → passed limit (keys_of key (x ∷ l)) ≡ suc (passed limit (keys_of key l))
  unfolding passed keys_of
  passed_more h = rw (le-leb (get_or key x 0) limit h)

passed_none : (key : List ℕ) (limit : ℕ) → passed limit (keys_of key []) ≡ 0
unfolding passed keys_of
passed_none key limit = refl

-- What a key that is passed, or isn't, says of the limit.
module _ {key limit : ℕ} {answer : Bool} (p : Passes key limit answer) where
  pub passes_yes : answer ≡ true → key ≤ limit
  passes_yes e = leb-true key limit (sym p.answer_is ∙ e)

  pub passes_no : answer ≡ false → limit < key
  passes_no e = leb-false key limit (sym p.answer_is ∙ e)

  pub passes_some : answer ≡ false → limit ≢ every_key
  passes_some e h = true≢false (sym (p.all h) ∙ e)

-- The walk to a newcomer's place counts the keys that the limit passes.
abbrev pub Seeking : ℕ → ℕ → ℕ → List ℕ → List ℕ → ℕ → ℕ → ℕ → Type 0
Seeking n head limit s key = Counting (λ l. passed limit (keys_of key l)) n head s

module _ {n head limit : ℕ} {s : List ℕ} (key : List ℕ) {at place next : ℕ} (k : Seeking n head limit s key at place next) where
  pub sought_end : next ≡ 0 → Sought n head limit s key at place
  sought_end z = record {
    reached = k.reached;
    place_is = counted_end k (passed_none key limit) z;
    at_the_end = λ h. reached_end k.reached (stops k.reached.walk k.next_is z);
  }

  module _ (f : next ≢ 0) where
    pub sought_stop : limit < get_or key next 0 → limit ≢ every_key → Sought n head limit s key at place
    sought_stop h g = record {
      reached = k.reached;
      place_is = counted_stop k f (passed_stop key limit next (follow n s next) h);
      at_the_end = λ z. absurd (g z);
    }

    pub seeking_next : {next' : ℕ} → get_or key next 0 ≤ limit → get_or s next 0 ≡ next' → Seeking n head limit s key next (place + 1) next'
    seeking_next h = counting_next k f (passed_more key limit next (follow n s next) h)

-- How many stand ahead of a number.
module _ (t x : ℕ) (l : List ℕ) where
  ahead_stop : x ≡ t → ahead t (x ∷ l) ≡ 0
  unfolding ahead
  ahead_stop h = rw (eq-eqb x t h)

  ahead_more : x ≢ t → ahead t (x ∷ l) ≡ suc (ahead t l)
  unfolding ahead
  ahead_more h = rw (ne_eqb x t h)

ahead_none : (t : ℕ) → ahead t [] ≡ 0
unfolding ahead
ahead_none t = refl

-- The walk to a number counts those ahead of it.
abbrev pub Finding : ℕ → ℕ → ℕ → List ℕ → ℕ → ℕ → ℕ → Type 0
Finding n head t s = Counting (ahead t) n head s

module _ {n head t : ℕ} {s : List ℕ} {at place next : ℕ} (k : Finding n head t s at place next) where
  pub found_end : next ≡ 0 → Found n head t s at place
  found_end z = record { reached = k.reached; place_is = counted_end k (ahead_none t) z }

  module _ (f : next ≢ 0) where
    pub found_here : next ≡ t → Found n head t s at place
    found_here h = record { reached = k.reached; place_is = counted_stop k f (ahead_stop t next (follow n s next) h) }

    pub finding_next : {next' : ℕ} → next ≢ t → get_or s next 0 ≡ next' → Finding n head t s next (place + 1) next'
    finding_next h = counting_next k f (ahead_more t next (follow n s next) h)
