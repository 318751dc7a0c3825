-- The replay that a host's record holds, and what a block and the end of a recording do to it: document 02, item 5, in the host's numbers.
use Rattle.std.specs.Prelude.{◌≡◌, List, ℕ, ℤ, Result}
use Rattle.model.specs.Codes.{number}
use Rattle.model.specs.declared.Code.{Code}
use Rattle.recording.specs.Replay.{Line}
use Rattle.replays.specs.declared.Replay.{Replay}
use Rattle.replays.specs.Replays.{as_result, TakesBlockAs, EndsAs}
use Rattle.host_record.specs.Record.{state_of}
use Rattle.host_record.specs.Written.{restored}
use Rattle.host_replay.specs.declared.HostLine.{HostLine}
use Rattle.host_replay.specs.declared.HostReplay.{HostReplay}

-- The kernel's state is read from its record; all else is the replay's own.
unfoldable pub replay_of : HostReplay → Replay
replay_of h = record {
  state = state_of h.kernel;
  tally = record { records = h.records; differ = h.differ; first = h.first };
  part = h.part;
  length = h.length;
}

-- The record that holds this replay: the kernel's state is written back over the record that is lent.
unfoldable pub stored : HostReplay → Replay → HostReplay
stored lent r = record {
  records = r.tally.records;
  differ = r.tally.differ;
  first = r.tally.first;
  length = r.length;
  kernel = restored lent.kernel r.state;
  part = r.part;
}

-- The block found the record as `before`, left it as `after` and gave the code. A refused one leaves every field as it was, unused ones too.
abbrev pub BlockTaken : HostReplay → List ℕ → HostReplay → ℤ → Type 0
BlockTaken before block after code = TakesBlockAs replay_of number before block after code

-- The same with a `Result` in the place of the code.
abbrev pub BlockFed : HostReplay → List ℕ → HostReplay → Result (Unit {0}) Code → Type 0
BlockFed before block after r = TakesBlockAs replay_of as_result before block after r

abbrev pub line_in : HostLine → Line
line_in l = record { records = l.records; differ = l.differ; first = l.first; tail = l.tail }

-- The end gave the code and the line's four numbers; the spare word is 0.
abbrev pub LineGiven : HostReplay → HostLine → Type 0
LineGiven lent l = EndsAs replay_of number lent l.code (line_in l) × (l.spare ≡ 0)
