-- `see_task` shows what a task's cell says where the number is valid, and nothing elsewhere.
use mathlib.Core.Path.{sym, ◌∙◌}
use borrow.Author.Tests.{not-true, not-false}
use Rattle.see.proofs.Laws.{undefined_task_seen, defined_task_seen}
use Rattle.see.proofs.see_task.Goals as goal

pub returns-then-not-task : goal.returns-then-not-task
returns-then-not-task c = undefined_task_seen c.args.state.now c.args.number (sym c.within.ensures ∙ c.if-not-within.false) (not-true _ c.if-not-task.true)

pub returns : goal.returns
returns c = defined_task_seen c.args.state.now c.args.number (sym c.within.ensures ∙ c.if-not-within.false) (not-false _ c.if-not-task.false) c.read_code.ensures
