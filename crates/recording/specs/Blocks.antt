-- Document 02, item 5: a recording in blocks of any length, also of no bytes: what the replay keeps between two blocks, and what a block does to it.
use Rattle.std.specs.Prelude.{◌≡◌, Bool, cond, ◌&&◌, ℕ, suc, ◌≤◌, eqb, length}
use mathlib.Core.List.{List, [], ◌∷◌, ◌++◌, flatten}
use Rattle.rows.specs.Runs.{end, answers}
use Rattle.model.specs.Rows.{Model}
use Rattle.recording.specs.Replay.{records_of, rest_of, play, start, Line, line, replayed}

-- Three of the line's numbers, for the whole records so far.
pub record Numbers : Type 0 where
  pub records : ℕ
  pub differ : ℕ
  pub first : ℕ

-- One record more, which differs or not.
unfoldable pub counted : Numbers → Bool → Numbers
counted n differs = record {
  records = suc n.records;
  differ = cond differs (suc n.differ) n.differ;
  first = cond (differs && eqb n.first 0) (suc n.records) n.first;
}

unfoldable pub all_counted : Numbers → List Bool → Numbers
all_counted n [] = n
all_counted n (differs ∷ more) = all_counted (counted n differs) more

-- "differ or first above records, or only one of these two 0" is what no replay has.
pub record Possible (n : Numbers) : Type 0 where
  pub differ_within : n.differ ≤ n.records
  pub first_within : n.first ≤ n.records
  pub none_differs : n.differ ≡ 0 → n.first ≡ 0
  pub some_differs : n.first ≡ 0 → n.differ ≡ 0

-- The kernel state, the numbers, and the bytes after the last whole record: "at most one part record of bytes".
pub record Replaying : Type 0 where
  pub state : Model
  pub numbers : Numbers
  pub part : List ℕ

-- Before the first block.
abbrev pub begun : Replaying
begun = record { state = start; numbers = record { records = 0; differ = 0; first = 0 }; part = [] }

-- The bytes that are there with a block: its own follow those that were kept.
abbrev pub bytes_with : Replaying → List ℕ → List ℕ
bytes_with x block = x.part ++ block

-- The whole records among them are played, and the rest is kept.
unfoldable pub fed : Replaying → List ℕ → Replaying
fed x block = record {
  state = end play x.state (records_of (bytes_with x block));
  numbers = all_counted x.numbers (answers play x.state (records_of (bytes_with x block)));
  part = rest_of (bytes_with x block);
}

-- The line at the end of the recording.
abbrev pub line_of : Replaying → Line
line_of x = record { records = x.numbers.records; differ = x.numbers.differ; first = x.numbers.first; tail = length x.part }

-- One block after the other.
unfoldable pub all_fed : Replaying → List (List ℕ) → Replaying
all_fed x [] = x
all_fed x (block ∷ blocks) = all_fed (fed x block) blocks

-- ── What is claimed of this ──

-- "wherever it was cut": two blocks are one.
abbrev pub CutAnywhere : Type 0
CutAnywhere = (x : Replaying) (earlier later : List ℕ) → fed (fed x earlier) later ≡ fed x (earlier ++ later)

-- "the same four numbers and the same kernel state as the whole file".
pub record AsWholeFile (x : Replaying) (bytes : List ℕ) : Type 0 where
  pub line_is : line_of x ≡ line bytes
  pub state_is : x.state ≡ replayed bytes

-- Every list of blocks: one, many, none; of many bytes, of one, of none.
abbrev pub AsWholeFiles : Type 0
AsWholeFiles = (blocks : List (List ℕ)) → AsWholeFile (all_fed begun blocks) (flatten blocks)
