-- Document 01, "Mailboxes" (0 at the end of a chain) and "A sound record" (what a chain is): what the cells of a table of chains mean.
--
-- A table has the numbers 1 to `numbers`, of tasks or of messages, and the chains 1 to `chains`; 0 is no number and no chain. Cell x, for a
-- number x in a chain, holds the number behind it. Cell numbers + k holds the first number of chain k. A cell that holds 0 ends its chain.
--
-- Free, and seen by no caller: cell 0, the cells of numbers that stand in no chain, and those past numbers + chains. They hold anything.
use Rattle.std.specs.Prelude.{◌≡◌, cond, ℕ, zero, suc, ◌+◌, ◌<◌, ◌≤◌, length, get_or}
use mathlib.Core.List.{List, [], ◌∷◌, map, Memᴰ as In}
use Rattle.lists.specs.Lists.{ascending, one_of}

-- How many cells a table has (cell 0, 32 tasks and 48 chains, or 64 messages and 16 chains), and how many keys (cell 0 and 64 numbers).
abbrev pub cells : ℕ
cells = 81

abbrev pub key_cells : ℕ
key_cells = 65

-- A limit that passes every key.
abbrev pub every_key : ℕ
every_key = 255

-- A number and those behind it; nothing where it is 0.
abbrev pub from_number : ℕ → List ℕ → List ℕ
from_number zero behind = []
from_number (suc x) behind = suc x ∷ behind

-- The numbers behind a cell, followed for at most `left` of them.
unfoldable pub follow : ℕ → List ℕ → ℕ → List ℕ
follow zero s cell = []
follow (suc left) s cell = from_number (get_or s cell 0) (follow left s (get_or s cell 0))

-- The table as lists: entry k is chain k, head first, and entry 0 is empty.
unfoldable pub lists : ℕ → ℕ → List ℕ → List (List ℕ)
lists numbers chains s = [] ∷ map (λ cell. follow numbers s cell) (ascending (suc numbers) chains)

-- Behind the cell stand these numbers, each one of the table's, and then the chain ends.
pub data Chain (numbers : ℕ) (s : List ℕ) : ℕ → List ℕ → Type 0 where
  ends : {cell : ℕ} → get_or s cell 0 ≡ 0 → Chain numbers s cell []
  goes_on : {cell x : ℕ} {l : List ℕ} → get_or s cell 0 ≡ x → 0 < x → x ≤ numbers → Chain numbers s x l → Chain numbers s cell (x ∷ l)

-- The arrays have room for a table of this size.
pub record Room (numbers chains : ℕ) (s : List ℕ) : Type 0 where
  pub cells_count : length s ≡ cells
  pub keys_fit : numbers < key_cells
  pub heads_fit : numbers + chains < cells

-- The cells hold these lists.
pub record Holds (numbers chains : ℕ) (s : List ℕ) (L : List (List ℕ)) : Type 0 where
  pub room : Room numbers chains s
  pub count : length L ≡ suc chains
  pub none : get_or L 0 [] ≡ []
  pub chain : (k : ℕ) → 0 < k → k ≤ chains → Chain numbers s (numbers + k) (get_or L k [])
  pub apart : {j k x : ℕ} → In x (get_or L j []) → In x (get_or L k []) → j ≡ k

-- "Sound" is document 01's word: each chain ends, with numbers of the table only, and no number stands in two places. The lists are those
-- that are read. That no chain comes round, and so none has more than `numbers` of them, is a theorem (proofs/Chain.antt, `no_loop`, `short`).
abbrev pub Sound : ℕ → ℕ → List ℕ → Type 0
Sound numbers chains s = Holds numbers chains s (lists numbers chains s)

-- The first of these lists that has the number, where the lists are numbered from k on; 0 where none has it.
unfoldable pub entry_of : ℕ → ℕ → List (List ℕ) → ℕ
entry_of x k [] = 0
entry_of x k (l ∷ L) = cond (one_of x l) k (entry_of x (suc k) L)

-- Which chain a number stands in, 0 for none.
unfoldable pub chain_of : ℕ → List (List ℕ) → ℕ
chain_of x L = entry_of x 0 L

-- The keys of numbers, in their order.
unfoldable pub keys_of : List ℕ → List ℕ → List ℕ
keys_of key l = map (λ x. get_or key x 0) l
