-- `task_sets` takes one task after the other, from the last one on.
use native.Mathlib.Omega.{arith}
use Rattle.host_record.proofs.Sets.{begins, one_task_more, rooms, bit_at_most_1, all_told}
use Rattle.host_record.proofs.task_sets.Goals as goal

pub loop-t-init : goal.loop-t-init
loop-t-init c = begins _

pub overflow_mul-waiting : goal.overflow_mul-waiting
overflow_mul-waiting c = let room = (rooms c.loop-t.invariant c.loop-t-test.true).0 in omega arith

pub overflow_add-waiting : goal.overflow_add-waiting
overflow_add-waiting c = let room = (rooms c.loop-t.invariant c.loop-t-test.true).0 in let small = bit_at_most_1 _ c.from.ensures in omega arith

pub overflow_mul-runnable : goal.overflow_mul-runnable
overflow_mul-runnable c = let room = (rooms c.loop-t.invariant c.loop-t-test.true).1 in omega arith

pub overflow_add-runnable : goal.overflow_add-runnable
overflow_add-runnable c = let room = (rooms c.loop-t.invariant c.loop-t-test.true).1 in let small = bit_at_most_1 _ c.from-in-loop-t.ensures in omega arith

pub loop-t-preserved : goal.loop-t-preserved
loop-t-preserved c =
    one_task_more c.from-task.result c.loop-t.invariant c.loop-t-test.true c.from-task.ensures
    c.wait_number-waits.ensures c.from.ensures c.from-in-loop-t.ensures

pub returns : goal.returns
returns c = all_told c.loop-t.invariant c.loop-t-test.false
