-- `ring::Ring::in_range` is exact: its three tests are, and they say what `InRange` says.
use Rattle.lists.proofs.Tests.{is_map, is_and, is_ltb, is_leb}
use Rattle.ring.proofs.Ring.in_range.Goals as goal

pub returns : goal.returns
returns c =
    is_map
    (λ t. record { head_is_place = t.0.0; count_fits = t.0.1; capacity_fits = t.1 })
    (λ i. ((i.head_is_place, i.count_fits), i.capacity_fits))
    (is_and (is_and (is_ltb _ _) (is_leb _ _)) (is_leb _ _))
