-- `receive` tests what the definition does, in its order.
use Rattle.std.proofs.Common.{rules}
use Rattle.decide.proofs.Queues.{refilled, taken, handed_over, receiver_joins}
use Rattle.decide.proofs.receive.Goals as goal

pub returns-then-row-ne0-2 : goal.returns-then-row-ne0-2
returns-then-row-ne0-2 c m a = refilled _ a (search rules) (search rules) c.if-row-ne0.true c.if-row-ne0-2.true

pub returns-then-row-ne0 : goal.returns-then-row-ne0
returns-then-row-ne0 c m a = taken _ a (search rules) (search rules) c.if-row-ne0.true c.if-row-ne0-2.false

pub returns-then-row-ne0-3 : goal.returns-then-row-ne0-3
returns-then-row-ne0-3 c m a = handed_over _ a (search rules) (search rules) c.if-row-ne0.false c.if-row-ne0-3.true

pub returns : goal.returns
returns c m a = receiver_joins _ a c.if-row-ne0.false c.if-row-ne0-3.false (search rules) (search rules) _ c.end_for-end.ensures
