-- `create` puts one row: the new mailbox, where nobody waits and no message is queued.
use Rattle.mailboxes.proofs.Objects.{created}
use Rattle.mailboxes.proofs.create.Goals as goal

pub returns : goal.returns
returns c = rw c.finished-answer.ensures (created c.requires)
