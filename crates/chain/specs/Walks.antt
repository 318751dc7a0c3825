-- What the walks along a chain ask and find. No caller of chain or chain_test sees these: they speak of cells, which are s.
use Rattle.std.specs.Prelude.{◌≡◌, Bool, true, false, ℕ, ◌+◌, ◌<◌, ◌≤◌, leb, length, get_or, drop, set}
use mathlib.Core.List.{List, [], ◌∷◌, Memᴰ as In}
use Rattle.lists.specs.Lists.{ahead, passed}
use Rattle.chain.specs.Table.{cells, key_cells, every_key, follow, Chain, keys_of}

-- A chain stands behind the cell.
pub record Walk (numbers cell : ℕ) (s : List ℕ) : Type 0 where
  pub cells_count : length s ≡ cells
  pub keys_fit : numbers < key_cells
  pub cell_fits : cell < cells
  pub chain : Chain numbers s cell (follow numbers s cell)

-- The walk from the head's cell has come to the cell `at`, past `place` numbers.
pub record Reached (numbers head : ℕ) (s : List ℕ) (at place : ℕ) : Type 0 where
  pub walk : Walk numbers at s
  pub place_fits : place ≤ length (follow numbers s head)
  pub at_is : at ≡ get_or (head ∷ follow numbers s head) place 0
  pub left : drop place (follow numbers s head) ≡ follow numbers s at

-- A limit passes the keys that are at most as large (our own term).
pub record Passes (key limit : ℕ) (answer : Bool) : Type 0 where
  pub answer_is : answer ≡ leb key limit
  pub all : limit ≡ every_key → answer ≡ true

-- The cell behind which a newcomer with this limit belongs.
pub record Sought (numbers head limit : ℕ) (s key : List ℕ) (at place : ℕ) : Type 0 where
  pub reached : Reached numbers head s at place
  pub place_is : place ≡ passed limit (keys_of key (follow numbers s head))
  pub at_the_end : limit ≡ every_key → place ≡ length (follow numbers s head)

-- The cell ahead of the number, or the last one where the number isn't there.
pub record Found (numbers head x : ℕ) (s : List ℕ) (at place : ℕ) : Type 0 where
  pub reached : Reached numbers head s at place
  pub place_is : place ≡ ahead x (follow numbers s head)

-- What a marking walk asks: the arrays have their sizes, the numbers and the cell fit them, and the mark isn't 0.
pub record Marking (numbers cell mark : ℕ) (s marks : List ℕ) : Type 0 where
  pub cells_count : length s ≡ cells
  pub marks_count : length marks ≡ key_cells
  pub keys_fit : numbers < key_cells
  pub cell_fits : cell < cells
  pub mark_positive : 0 < mark

-- No number of the list is marked.
abbrev pub Unmarked : List ℕ → List ℕ → Type 0
Unmarked marks l = (x : ℕ) → In x l → get_or marks x 0 ≡ 0

-- The marks with this one set at each number of a list.
abbrev pub mark_all : List ℕ → List ℕ → ℕ → List ℕ
mark_all marks [] mark = marks
mark_all marks (x ∷ l) mark = mark_all (set marks x mark) l mark

-- A chain of unmarked numbers stands behind the cell, and its numbers are marked now.
pub record Marked (numbers cell mark : ℕ) (s marks marks' : List ℕ) : Type 0 where
  pub chain : Chain numbers s cell (follow numbers s cell)
  pub unmarked : Unmarked marks (follow numbers s cell)
  pub marks_are : marks' ≡ mark_all marks (follow numbers s cell) mark

-- The answer says whether such a chain, of at most `left` numbers, stands behind the cell.
pub record MarkTested (numbers cell mark left : ℕ) (s marks marks' : List ℕ) (answer : Bool) : Type 0 where
  pub size : length marks' ≡ length marks
  pub if_true : answer ≡ true → Marked numbers cell mark s marks marks'
  pub if_false : answer ≡ false → (l : List ℕ) → Chain numbers s cell l → length l ≤ left → Unmarked marks l → ⊥

-- The chain and the three after it are chains of the table, and nothing stands in them.
pub record FourEmpty (numbers chains chain : ℕ) (s : List ℕ) : Type 0 where
  pub within : chain + 3 ≤ chains
  pub first : get_or s (numbers + chain) 0 ≡ 0
  pub second : get_or s (numbers + chain + 1) 0 ≡ 0
  pub third : get_or s (numbers + chain + 2) 0 ≡ 0
  pub fourth : get_or s (numbers + chain + 3) 0 ≡ 0
