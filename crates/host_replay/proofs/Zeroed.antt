-- A replay of zeros is a new one: its kernel state is the empty one.
use Rattle.replays.proofs.Files.{new_replay}
use Rattle.host_record.proofs.Zeroed.{zeroed_empty}
use Rattle.host_replay.specs.Replay.{replay_of}
use Rattle.host_replay.specs.Zeroed.{ZeroedIsNew}

pub zeroed_new : ZeroedIsNew
unfolding replay_of
zeroed_new = new_replay zeroed_empty.0 zeroed_empty.1
