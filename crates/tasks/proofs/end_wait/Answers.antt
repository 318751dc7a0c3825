-- `end_wait` ends the task's wait: by the law of a wait that ends.
use Rattle.tasks.proofs.Laws.{can_end, wait_ended}
use Rattle.tasks.proofs.end_wait.Goals as goal

pub end_one-requires : goal.end_one-requires
end_one-requires c = can_end c.requires.0 _ c.requires.1 c.requires.2

pub returns : goal.returns
returns c = wait_ended c.requires.0 _ c.requires.1 c.requires.2 c.end_one.ensures c.finished-answer.ensures
