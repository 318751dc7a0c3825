-- `tasks_of` makes the tasks that the numbers stand for: its loop fills the array with them.
use mathlib.Core.Path.{◌≡◌}
use lib.ListN.{length}
use Rattle.host_tasks.proofs.Filling.{filled_first, filled_more, filled_all}
use borrow.Author.Rules.{rules}
use Rattle.host_tasks.proofs.tasks_of.Goals as goal

pub loop-t-init : goal.loop-t-init
loop-t-init c =
    let size : length c.args.numbers ≡ 33 = search rules in
    filled_first _ size c.from-first.ensures

pub loop-t-preserved : goal.loop-t-preserved
loop-t-preserved c = filled_more _ c.loop-t.invariant c.loop-t-test.true c.from.ensures

pub returns : goal.returns
returns c = filled_all c.loop-t.invariant c.loop-t-test.false
