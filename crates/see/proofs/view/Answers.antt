-- `view` shows all that a call has in view: kind by kind.
use mathlib.Core.Path.{refl}
use Rattle.see.proofs.Laws.{sees}
use Rattle.see.proofs.view.Goals as goal

pub returns : goal.returns
returns c =
    sees c.args.state.now c.args.call c.see_task.ensures (rw c.task_named.ensures at c.see_task-2.ensures) (rw c.queue_named.ensures at c.see_queue.ensures)
    (rw c.mailbox_named.ensures at c.see_mailbox.ensures) (rw c.message_named.ensures at c.see_message.ensures) refl
