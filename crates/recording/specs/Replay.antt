-- Document 02, item 3: a file of such records, replayed from the empty state, and the four numbers of the line. A file is the list of all its bytes.
use Rattle.std.specs.Prelude.{◌≡◌, Bool, true, false, not, cond, ◌&&◌, List, [], ◌∷◌, ℕ, zero, suc, ◌*◌, ◌/◌, eqb, length, take, drop}
use Rattle.lists.specs.Tests.{Whether}
use Rattle.rows.specs.Program.{Result}
use Rattle.rows.specs.Runs.{end, answers}
use Rattle.model.specs.Rows.{Model, empty_state}
use Rattle.model.specs.Codes.{Values, values}
use Rattle.model.specs.Step.{step}
use Rattle.model.specs.declared.Answer.{Answer}
use Rattle.recording.specs.Recording.{same_ℤ, recorded_call, recorded_values, not_run}

-- ── The records of a file ──

abbrev pub record_bytes : ℕ
record_bytes = 32

-- The first n records.
unfoldable pub first_records : ℕ → List ℕ → List (List ℕ)
first_records zero bytes = []
first_records (suc n) bytes = take record_bytes bytes ∷ first_records n (drop record_bytes bytes)

unfoldable pub whole_records : List ℕ → ℕ
whole_records bytes = length bytes / record_bytes

unfoldable pub records_of : List ℕ → List (List ℕ)
records_of bytes = first_records (whole_records bytes) bytes

-- "the bytes after the last whole record".
unfoldable pub rest_of : List ℕ → List ℕ
rest_of bytes = drop (record_bytes * whole_records bytes) bytes

-- ── One record ──

-- The same kind, code or place, and words. An answer that waits has no words, so a record of one with any differs.
abbrev pub same_values : Values → Values → Bool
same_values v w =
    eqb v.kind w.kind && same_ℤ v.code_or_place w.code_or_place && eqb v.a w.a && eqb v.b w.b && eqb v.c w.c

-- The test is exact.
abbrev pub SameValuesExactly : Type 0
SameValuesExactly = (v w : Values) → Whether (v ≡ w) (same_values v w)

-- A record that was run differs where its answer isn't the one that the call has now.
unfoldable pub compared : List ℕ → Result Model Answer → Result Model Bool
compared r now = record { state = now.state; answer = not (same_values (recorded_values r) (values now.answer)) }

-- The state that a record leaves, and whether it differs: one that isn't run "counts as differing".
unfoldable pub play : Model → List ℕ → Result Model Bool
play m r = cond (not_run r) (record { state = m; answer = true }) (compared r (step m (recorded_call r)))

-- ── The line ──

-- How many of the records differ.
unfoldable pub how_many : List Bool → ℕ
how_many [] = 0
how_many (true ∷ more) = suc (how_many more)
how_many (false ∷ more) = how_many more

-- The number of the first that does, counted from 1; 0 for none.
unfoldable pub first_of : List Bool → ℕ
first_of [] = 0
first_of (true ∷ more) = 1
first_of (false ∷ more) = cond (eqb (first_of more) 0) 0 (suc (first_of more))

-- "from the empty state (counter 0)".
abbrev pub start : Model
start = empty_state 0

-- Of each record whether it differs, in order.
unfoldable pub differing : List ℕ → List Bool
differing bytes = answers play start (records_of bytes)

pub record Line : Type 0 where
  pub records : ℕ
  pub differ : ℕ
  pub first : ℕ
  pub tail : ℕ

unfoldable pub line : List ℕ → Line
line bytes = record {
  records = length (records_of bytes);
  differ = how_many (differing bytes);
  first = first_of (differing bytes);
  tail = length (rest_of bytes);
}

-- The kernel state at the end of the file.
unfoldable pub replayed : List ℕ → Model
replayed bytes = end play start (records_of bytes)
