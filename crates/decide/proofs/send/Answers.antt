-- `send` tests what the definition does, in its order.
use Rattle.std.proofs.Common.{arith, rules}
use Rattle.decide.proofs.Queues.{delivered, stored, replaced, sender_joins}
use Rattle.decide.proofs.send.Goals as goal

pub returns-then-row-ne0 : goal.returns-then-row-ne0
returns-then-row-ne0 c m a = delivered _ a (search rules) (search rules) c.if-row-ne0.true

pub returns-then-row : goal.returns-then-row
returns-then-row c m a = stored _ a (search rules) (search rules) c.if-row-ne0.false c.if-row.true

pub returns-then-call-eq7 : goal.returns-then-call-eq7
returns-then-call-eq7 c m a = replaced _ a c.if-row-ne0.false c.if-row.false c.if-call-eq7.true

pub returns : goal.returns
returns c m a =
    sender_joins _ a c.if-row-ne0.false c.if-row.false (search rules) (omega (arith, c.if-call-eq7.false)) _ c.end_for-end.ensures
