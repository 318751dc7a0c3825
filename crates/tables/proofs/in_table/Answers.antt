-- `in_table` goes by whether the number is 0.
use Rattle.std.proofs.Common.{◌≡◌, rules, to_z, of_z, w32}
use Rattle.tables.proofs.Made.{read_as_unknown, read_as_it_is}
use Rattle.tables.proofs.in_table.Goals as goal

pub returns-then-call-eq0 : goal.returns-then-call-eq0
returns-then-call-eq0 c =
    let kept : to_z w32 (of_z w32 c.args.call.tmout) ≡ c.args.call.tmout = search rules in
    rw kept (read_as_unknown c.args.call c.if-call-eq0.true)

pub returns : goal.returns
returns c = read_as_it_is c.args.call c.if-call-eq0.false
