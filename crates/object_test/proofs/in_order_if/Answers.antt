-- `in_order_if` is exact: where the order is wanted it is `chain_test::in_order`, and else nothing is asked.
use Rattle.lists.proofs.Tests.{is_if_met, is_if_unmet}
use Rattle.object_test.proofs.in_order_if.Goals as goal

pub returns-then-wanted : goal.returns-then-wanted
returns-then-wanted c = is_if_met c.if-wanted.true c.in_order.ensures

pub returns : goal.returns
returns c = is_if_unmet c.if-wanted.false
