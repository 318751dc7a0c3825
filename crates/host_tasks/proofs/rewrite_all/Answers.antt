-- `rewrite_all` writes the tasks' numbers one after the other.
use borrow.Author.Rules.{rules}
use Rattle.host_tasks.proofs.Rewriting.{begins, one_more, all_written}
use Rattle.host_tasks.proofs.rewrite_all.Invariants.{outside}
use Rattle.host_tasks.proofs.rewrite_all.Goals as goal

pub loop-n-init : goal.loop-n-init
loop-n-init c = begins outside (search rules) (search rules)

pub loop-n-preserved : goal.loop-n-preserved
loop-n-preserved c = one_more _ _ c.loop-n.invariant c.loop-n-test.true c.rewritten.ensures

pub returns : goal.returns
returns c = all_written c.loop-n.invariant c.loop-n-test.false
