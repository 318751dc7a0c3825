-- `end_sound` is exact: the difference of the ticks, which wraps, is how many ticks are left.
use Rattle.std.proofs.Common.{arith}
use Rattle.lists.proofs.Tests.{is_and, is_leb}
use Rattle.task_test.proofs.Tasks.{never_ends, ends_at}
use Rattle.task_test.proofs.end_sound.Goals as goal

pub returns-in-Never : goal.returns-in-Never
returns-in-Never c = never_ends _ c.in-Never.is

pub returns-in-At : goal.returns-in-At
returns-in-At c =
    let f = c.ranges.counter in
    let g = c.wrapping_sub_u32-left in
    ends_at c.in-At.is (omega arith) (omega arith) c.wrapping_sub_u32-left.ensures.value (is_and (is_leb _ _) (is_leb _ _))
