-- A replay whose bytes are all 0 is a new one (Layout.antt: every byte belongs to a field).
use Rattle.std.specs.Prelude.{replicate}
use Rattle.replays.specs.Files.{New}
use Rattle.host_record.specs.Zeroed.{zeroed}
use Rattle.host_replay.specs.declared.HostReplay.{HostReplay}
use Rattle.host_replay.specs.Replay.{replay_of}

abbrev pub zeroed_replay : HostReplay
zeroed_replay = record { records = 0; differ = 0; first = 0; length = 0; kernel = zeroed; part = replicate 32 0 }

abbrev pub ZeroedIsNew : Type 0
ZeroedIsNew = New (replay_of zeroed_replay)
