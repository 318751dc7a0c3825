-- `send_message` tests what the definition does.
use Rattle.decide.proofs.Mailboxes.{delivered, queued}
use Rattle.decide.proofs.send_message.Goals as goal

pub returns-then-row-ne0 : goal.returns-then-row-ne0
returns-then-row-ne0 c m a = delivered _ a c.requires c.if-row-ne0.true

pub returns : goal.returns
returns c m a = queued _ a c.requires c.if-row-ne0.false _ c.low_byte-message.ensures
