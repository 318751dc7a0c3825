-- `define` writes the task's row and suspension: by the law of a task written anew.
use Rattle.std.proofs.Common.{refl}
use Rattle.tasks.proofs.Laws.{task_defined}
use Rattle.tasks.proofs.define.Goals as goal

pub returns : goal.returns
returns c =
    rw c.set_key.ensures (task_defined c.requires.0.readable c.args.t c.requires.1 c.args.priority refl c.finished-answer.ensures)
