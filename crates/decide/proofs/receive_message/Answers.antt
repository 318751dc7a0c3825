-- `receive_message` tests what the definition does, in its order.
use Rattle.std.proofs.Common.{rules}
use Rattle.decide.proofs.Mailboxes.{taken, waiter_joins}
use Rattle.decide.proofs.receive_message.Goals as goal

pub returns-then-row-ne0 : goal.returns-then-row-ne0
returns-then-row-ne0 c m a = taken _ a (search rules) (search rules) c.if-row-ne0.true

pub returns : goal.returns
returns c m a = waiter_joins _ a c.if-row-ne0.false (search rules) (search rules) _ c.end_for-end.ensures c.ranks_waiters.ensures
