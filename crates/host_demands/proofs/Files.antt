-- What holds of every record that holds a replay holds of the host's.
use Rattle.model.specs.Codes.{number}
use Rattle.replays.proofs.Files.{every_file}
use Rattle.host_replay.specs.Replay.{replay_of}
use Rattle.demands.proofs.Runs.{lists_run}
use Rattle.host_demands.specs.Files.{EveryFileForHosts, BlocksRunForHosts, BlocksRun}

pub every_file_for_hosts : EveryFileForHosts
every_file_for_hosts = every_file replay_of number

pub blocks_run_for_hosts : BlocksRunForHosts
blocks_run_for_hosts = lists_run _

pub blocks_run : BlocksRun
blocks_run = lists_run _
