-- `create` writes new cells, at which nobody waits.
use Rattle.data_queues.proofs.Objects.{creates}
use Rattle.data_queues.proofs.create.Goals as goal

pub returns : goal.returns
returns c = creates c.requires c.new-ring.ensures c.finished-answer.ensures
