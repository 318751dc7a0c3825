-- `play` takes a record at each turn.
use Rattle.replays.specs.Replays.{as_if_whole}
use Rattle.replays.proofs.Turns.{Going}
use Rattle.replays.proofs.Replay.play.Given as goal

abbrev pub invariant-loop-record : goal.invariant-loop-record
invariant-loop-record l = Going (as_if_whole l.self) l.records l.last.state l.tally l.record-index
