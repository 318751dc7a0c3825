-- `suspend` changes one row: by the law of a changed suspension.
use Rattle.tasks.proofs.Laws.{suspension_set}
use Rattle.tasks.proofs.suspend.Goals as goal

pub returns : goal.returns
returns c =
    suspension_set c.requires.0.readable c.args.t c.requires.1 c.args.suspended c.finished-answer.ensures
