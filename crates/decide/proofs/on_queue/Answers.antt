-- `on_queue` goes by the number of the call.
use Rattle.std.proofs.Common.{◌≡◌, arith}
use Rattle.decide.proofs.Queues.{created, deleted, referred}
use Rattle.decide.proofs.on_queue.Goals as goal

pub returns-in-2 : goal.returns-in-2
returns-in-2 c m a = created _ a c.in-2.is _ _ c.low_byte.ensures c.low_byte-in-2.ensures

pub returns-in-3 : goal.returns-in-3
returns-in-3 c m a = deleted _ a c.in-3.is

pub returns-in_default : goal.returns-in_default
returns-in_default c m a =
    let last : c.args.call.number ≡ 11 = grind arith in
    rw (c.from.ensures, c.from-in_default.ensures, c.from-in_default-2.ensures) (referred _ a last)
