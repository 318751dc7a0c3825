-- `in_order` is the test from the head's cell, behind which the list stands.
use Rattle.chain.proofs.Changes.{walk_from_head, list_is}
use Rattle.chain_test.proofs.in_order.Goals as goal

pub in_order_from-requires : goal.in_order_from-requires
in_order_from-requires c = walk_from_head c.requires

pub returns : goal.returns
returns c = rw (list_is c.requires) at c.in_order_from.ensures
