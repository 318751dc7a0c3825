-- `names_chain` is exact: its tests are, and they say what `NamesChain` says.
use Rattle.lists.proofs.Tests.{is_map, is_and, is_leb, is_eqb}
use Rattle.task_test.proofs.names_chain.Goals as goal

pub returns : goal.returns
returns c =
    is_map
    (λ t. record { low = t.0.0; high = t.0.1; chain_is = t.1 })
    (λ n. ((n.low, n.high), n.chain_is))
    (is_and (is_and (is_leb _ _) (is_leb _ _)) (is_eqb _ _))
