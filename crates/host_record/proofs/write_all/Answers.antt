-- `write_all` writes one task after the other: the loop keeps what has been written.
use Rattle.host_record.proofs.Writing.{begins, one_more, all_written}
use borrow.Author.Rules.{rules}
use Rattle.host_record.proofs.write_all.Goals as goal

pub loop-t-init : goal.loop-t-init
loop-t-init c = begins (search rules)

pub loop-t-preserved : goal.loop-t-preserved
loop-t-preserved c = one_more c.loop-t.invariant c.loop-t-test.true c.from.ensures

pub returns : goal.returns
returns c = all_written c.loop-t.invariant c.loop-t-test.false
