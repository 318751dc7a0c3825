-- `on_task` goes by the number of the call.
use Rattle.std.proofs.Common.{◌≡◌, refl, arith}
use Rattle.decide.proofs.Tasks.{known, defined, wait_ended, suspended, resumed, looked_at, fetched}
use Rattle.decide.proofs.on_task.Goals as goal

pub returns-in-1 : goal.returns-in-1
returns-in-1 c m a = defined _ a c.in-1.is _ c.low_byte.ensures

pub returns-in-19 : goal.returns-in-19
returns-in-19 c m a = wait_ended _ a c.in-19.is

pub returns-in-20 : goal.returns-in-20
returns-in-20 c m a = suspended _ a c.in-20.is

pub returns-in-21 : goal.returns-in-21
returns-in-21 c m a = resumed _ a c.in-21.is

pub returns-in-22 : goal.returns-in-22
returns-in-22 c m a = looked_at _ a c.in-22.is c.look.ensures

pub returns-in_default : goal.returns-in_default
returns-in_default c m a =
    let known_number = known _ a in
    let last : c.args.call.number ≡ 23 = grind (arith, known_number) in
    fetched _ a last refl
