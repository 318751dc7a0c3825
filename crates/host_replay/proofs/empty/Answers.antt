-- `empty` holds a new replay.
use Rattle.replays.proofs.Files.{new_replay}
use Rattle.host_replay.specs.Replay.{replay_of}
use Rattle.host_replay.proofs.empty.Goals as goal

pub returns : goal.returns
unfolding replay_of
returns c = new_replay c.empty.ensures.0 c.empty.ensures.1
