-- What the replay of a recording promises: document 02, items 3 and 5, on the state that it keeps.
use Rattle.std.specs.Prelude.{◌≡◌, not, List, [], ℕ, ◌<◌, ◌≤◌, T, Option, None, IsSomeAnd, Result, Ok, Err, ◌++◌, codes, length, take}
use Rattle.std.specs.Fmt.{decimal}
use Rattle.model.specs.declared.Code.{Code}
use Rattle.model.specs.declared.Code.TheVariants.{Ok as E_OK, Par as E_PAR, Sys as E_SYS}
use Rattle.record.specs.declared.State.{State}
use Rattle.record.specs.Meaning.{abs}
use Rattle.record.specs.Sound.{Sound}
use Rattle.kernel.specs.Steps.{Judged, Appliable}
use Rattle.recording.specs.Recording.{recorded_call, recorded_values, not_run}
use Rattle.recording.specs.Replay.{Line}
use Rattle.recording.specs.Blocks.{Numbers, Possible, Replaying, fed, line_of}
use Rattle.recording.specs.Decoded.{values_of}
use Rattle.replays.specs.declared.Line.{Line as Line_given}
use Rattle.replays.specs.declared.Reading.{Reading}
use Rattle.replays.specs.declared.Replay.{Replay}
use Rattle.replays.specs.declared.Tally.{Tally}

-- ── What it keeps ──

abbrev pub numbers_of : Tally → Numbers
numbers_of t = record { records = t.records; differ = t.differ; first = t.first }

abbrev pub no_records : Tally
no_records = record { records = 0; differ = 0; first = 0 }

abbrev pub part_of : Replay → List ℕ
part_of r = take r.length r.part

abbrev pub meaning : Replay → Replaying
meaning r = record { state = abs r.state; numbers = numbers_of r.tally; part = part_of r }

-- The same without the part.
abbrev pub as_if_whole : Replay → Replaying
as_if_whole r = record { state = abs r.state; numbers = numbers_of r.tally; part = [] }

-- The replay states that item 5 lets through are sound (our own term, for a replay state): nothing more is asked of one, and nothing less.
pub record SoundReplay (r : Replay) : Type 0 where
  -- "an unsound kernel state" is refused.
  pub sound : Sound r.state
  -- "a part above 31 bytes".
  pub part_within : r.length ≤ 31
  -- The array's size is its type's: it holds of every replay state, and stands here so that whoever has a sound one has it.
  pub part_size : length r.part ≡ 32
  -- "differ or first above records, or only one of these two 0".
  pub possible : Possible (numbers_of r.tally)

-- ── A record ──

-- What a record that is run comes to on a sound state.
pub record Read (s : State) (bytes : List ℕ) (x : Reading) : Type 0 where
  pub appliable : Appliable s x.decision
  pub judged : Judged s (recorded_call bytes) x.decision
  pub recorded_is : values_of x.recorded ≡ recorded_values bytes

-- Of one that isn't run there is nothing to do and nothing to compare.
pub record ReadFrom (s : State) (bytes : List ℕ) (x : Option Reading) : Type 0 where
  pub left_out : T (not_run bytes) → x ≡ None
  pub run : T (not (not_run bytes)) → IsSomeAnd x (Read s bytes)

-- ── Blocks ──

-- The replay after the bytes, where it was this one before: meaning and soundness.
pub record AfterBytes (before : Replaying) (bytes : List ℕ) (after : Replay) : Type 0 where
  pub meaning_is : meaning after ≡ fed before bytes
  pub sound : SoundReplay after

-- The most that a count of 64 bits holds.
abbrev pub count_limit : ℕ
count_limit = 18446744073709551615

-- How many records there are with the block.
abbrev pub records_with : Replay → List ℕ → ℕ
records_with s block = (fed (meaning s) block).numbers.records

-- What a block does to whatever replay state, by the first of three cases. X holds a replay, and a code is told as a K: here they are `Replay` and a `Result`,
-- for hosts their record and document 01's numbers.
pub record TakesBlockAs {X K : Type 0} (held : X → Replay) (told : Code → K) (s : X) (block : List ℕ) (after : X) (code : K) : Type 0 where
  -- "gets E_SYS", and changes nothing.
  pub unsound : (SoundReplay (held s) → ⊥) → (code ≡ told E_SYS) × (after ≡ s)
  -- "then a block that would take records past 64 bits gets E_PAR", and changes nothing.
  pub too_many : SoundReplay (held s) → count_limit < records_with (held s) block → (code ≡ told E_PAR) × (after ≡ s)
  pub otherwise : SoundReplay (held s) → records_with (held s) block ≤ count_limit → (code ≡ told E_OK) × AfterBytes (meaning (held s)) block (held after)

-- A code as a `Result`: E_OK is no error.
abbrev pub as_result : Code → Result (Unit {0}) Code
as_result E_OK = Ok tt
as_result code = Err code

abbrev pub TakesBlock : Replay → List ℕ → Replay → Result (Unit {0}) Code → Type 0
TakesBlock s block after r = TakesBlockAs (λ x. x) as_result s block after r

-- ── The end ──

abbrev pub four_zeros : Line
four_zeros = record { records = 0; differ = 0; first = 0; tail = 0 }

-- "at the end with four zeros".
pub record EndsAs {X K : Type 0} (held : X → Replay) (told : Code → K) (s : X) (code : K) (l : Line) : Type 0 where
  pub unsound : (SoundReplay (held s) → ⊥) → (code ≡ told E_SYS) × (l ≡ four_zeros)
  pub otherwise : SoundReplay (held s) → (code ≡ told E_OK) × (l ≡ line_of (meaning (held s)))

-- A refusal has no line: it stands for one of four zeros.
abbrev pub line_in : Result Line_given Code → Line
line_in (Ok l) = record { records = l.tally.records; differ = l.tally.differ; first = l.tally.first; tail = l.tail }
line_in (Err code) = four_zeros

abbrev pub end_code : Result Line_given Code → Result (Unit {0}) Code
end_code (Ok l) = Ok tt
end_code (Err code) = Err code

abbrev pub Ends : Replay → Result Line_given Code → Type 0
Ends s r = EndsAs (λ x. x) as_result s (end_code r) (line_in r)

-- "records N differ N first N tail N".
abbrev pub text : Line_given → List ℕ
text l =
    codes "records " ++ decimal l.tally.records ++ codes " differ " ++ decimal l.tally.differ ++ codes " first " ++ decimal l.tally.first ++ codes " tail "
    ++ decimal l.tail
