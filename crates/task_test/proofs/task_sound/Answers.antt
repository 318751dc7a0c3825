-- `task_sound` is exact: its tests are, and they say what `TaskSound` says of a defined task, and of an undefined one.
use Rattle.std.proofs.Common.{rules}
use mathlib.Core.Path.{ap}
use mathlib.Core.Bool.{not}
use Rattle.lists.proofs.Tests.{is_of, is_and, is_leb, is_eqb, is_T, is_not}
use Rattle.parts.proofs.Stops.{stops, goes_on}
use Rattle.task_test.proofs.Tasks.{defined_task, undefined_task}
use Rattle.task_test.proofs.task_sound.Goals as goal

pub returns-then-not-priority-code_sound : goal.returns-then-not-priority-code_sound
returns-then-not-priority-code_sound c =
    defined_task c.args.task c.if-task.true (stops (is_and (is_and (is_leb _ _) (is_leb _ _)) c.code_sound.ensures) (ap not c.if-not-priority-code_sound.true))

pub returns-then-task : goal.returns-then-task
returns-then-task c =
    defined_task c.args.task c.if-task.true
    (goes_on (is_and (is_and (is_leb _ _) (is_leb _ _)) c.code_sound.ensures) (ap not c.if-not-priority-code_sound.false) c.wait_sound.ensures)

pub returns : goal.returns
returns c =
    undefined_task c.args.task c.if-task.false (is_and (is_and (is_not (is_T c.args.task.suspended)) (is_eqb _ _)) (is_of c.eq.result (λ e. search rules) (λ e q. search rules)))
