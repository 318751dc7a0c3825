-- `tasks_after` writes all tasks, or one number.
use Rattle.std.proofs.Common.{sym, ◌∙◌}
use Rattle.host_record.proofs.Writing.{one_written, outside_written}
use borrow.Author.Rules.{rules}
use Rattle.host_record.proofs.tasks_after.Goals as goal

pub returns-then-one-lt-TASK_CELLS : goal.returns-then-one-lt-TASK_CELLS
returns-then-one-lt-TASK_CELLS c =
    one_written (search rules) c.args.touched c.in-Some.number (sym c.number_written.ensures ∙ c.in-Some.is) c.if-one-lt-TASK_CELLS.true c.from.ensures

pub returns-else-one-lt-TASK_CELLS : goal.returns-else-one-lt-TASK_CELLS
returns-else-one-lt-TASK_CELLS c =
    outside_written (search rules) c.args.touched c.in-Some.number (sym c.number_written.ensures ∙ c.in-Some.is) c.if-one-lt-TASK_CELLS.false
