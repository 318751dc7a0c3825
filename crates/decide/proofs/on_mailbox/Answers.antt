-- `on_mailbox` goes by the number of the call.
use Rattle.std.proofs.Common.{◌≡◌, ◌%◌, cond, arith}
use Rattle.model.specs.Rows.{messages_by_priority}
use Rattle.decide.proofs.Mailboxes.{created, deleted, referred}
use Rattle.decide.proofs.on_mailbox.Goals as goal
use Rattle.decide.proofs.on_mailbox.Goals.{then-by_priority, else-by_priority}

pub returns-after-by_priority : goal.returns-after-by_priority
returns-after-by_priority c m a =
    let highest : c.if-by_priority.highest ≡ cond (messages_by_priority c.args.call.attribute) (c.args.call.value % 256) 0 =
    elim c.if-by_priority.branch [
      | then-by_priority w ↦ simp (w.highest-is, ← c.messages_by_priority-by_priority.ensures, w.if-by_priority.true, w.low_byte-highest.ensures)
      | else-by_priority w ↦ simp (w.highest-is, ← c.messages_by_priority-by_priority.ensures, w.if-by_priority.false)
    ] in
    created _ a c.in-12.is _ _ c.low_byte.ensures highest

pub returns-in-13 : goal.returns-in-13
returns-in-13 c m a = deleted _ a c.in-13.is

pub returns-in_default : goal.returns-in_default
returns-in_default c m a =
    let last : c.args.call.number ≡ 18 = grind arith in
    rw (c.from.ensures, c.from-in_default.ensures) (referred _ a last)
