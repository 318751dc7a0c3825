-- Document 02, items 3 and 5, through the functions that hosts call: a recording in any blocks.
use Rattle.model.specs.Codes.{number}
use Rattle.replays.specs.Replays.{TakesBlock}
use Rattle.replays.specs.Files.{EveryFile}
use Rattle.host_replay.specs.Replay.{replay_of, BlockTaken}
use Rattle.demands.specs.Runs.{ListsRun}

-- Every file, in any blocks, from a record that linguastel_unguarded_replay_empty has made: each block is taken, and linguastel_unguarded_replay_end gives the
-- file's line.
abbrev pub EveryFileForHosts : Type 0
EveryFileForHosts = EveryFile replay_of number

-- This is not about nothing: wherever blocks are fed by that contract, as the code feeds them, every list of blocks is fed to its end; so by `Replay::feed`.
abbrev pub BlocksRunForHosts : Type 1
BlocksRunForHosts = ListsRun BlockTaken

abbrev pub BlocksRun : Type 1
BlocksRun = ListsRun TakesBlock
