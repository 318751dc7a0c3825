-- Document 02, items 3 and 5: the line's four numbers for the bytes of every file, and the kernel state, in whatever blocks the bytes come.
use Rattle.std.specs.Prelude.{◌≡◌, ℕ, ◌≤◌, length}
use mathlib.Core.List.{List, flatten}
use Rattle.lists.specs.Lists.{Each}
use Rattle.rows.specs.Runs.{Run}
use Rattle.model.specs.declared.Code.{Code}
use Rattle.model.specs.declared.Code.TheVariants.{Ok as E_OK}
use Rattle.record.specs.Meaning.{abs}
use Rattle.recording.specs.Replay.{records_of, Line, line, replayed}
use Rattle.recording.specs.Blocks.{begun}
use Rattle.replays.specs.declared.Replay.{Replay}
use Rattle.replays.specs.Replays.{meaning, SoundReplay, count_limit, TakesBlockAs, EndsAs}

-- A new replay.
pub record New (r : Replay) : Type 0 where
  pub sound : SoundReplay r
  pub meaning_is : meaning r ≡ begun

-- As in `TakesBlockAs`, X holds a replay, and a code is told as a K.
module _ {X K : Type 0} (held : X → Replay) (told : Code → K) where
  -- What the end gives after all bytes of a file, and what the replay is then.
  pub record FileReplayed (bytes : List ℕ) (last : X) (code : K) (l : Line) : Type 0 where
    pub code_is : code ≡ told E_OK
    pub line_is : l ≡ line bytes
    pub state_is : abs (held last).state ≡ replayed bytes
    pub sound : SoundReplay (held last)

  -- Every file, in any blocks, also of no bytes: each block is taken, and the end gives the file's line and leaves its state. No unit writes 2 ^ 64 records; the
  -- block that would come to so many is refused with E_PAR, and changes nothing (`TakesBlockAs`).
  abbrev pub EveryFile : Type 0
  EveryFile =
      (first last : X) (blocks : List (List ℕ)) (codes : List K) (code : K) (l : Line)
      → New (held first) → Run (TakesBlockAs held told) first blocks last codes → EndsAs held told last code l → length (records_of (flatten blocks)) ≤ count_limit
      → Each (λ c. c ≡ told E_OK) codes × FileReplayed (flatten blocks) last code l
