-- What is left of the chain gets shorter.
use lib.ListN.{length}
use Rattle.chain.specs.Table.{follow}
use Rattle.chain_test.proofs.+in_order_from.Given as goal

abbrev pub decreases-in_order_from : goal.decreases-in_order_from
decreases-in_order_from l = length (follow l.numbers l.table.now.link l.cell)
