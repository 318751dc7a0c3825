-- `empty` takes the parts of the empty state, and tasks that are none.
use Rattle.host_record.specs.Record.{state_of}
use Rattle.host_record.proofs.Record.{empty_means, empty_sound}
use Rattle.host_record.proofs.empty.Goals as goal

pub returns : goal.returns
unfolding state_of
returns c = let e = c.empty-state.ensures in (empty_sound e.0 e.1, empty_means e.0 e.1)
