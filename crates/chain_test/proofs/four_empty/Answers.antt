-- `four_empty` is exact: it compares each of the four heads with 0.
use native.Mathlib.Omega.{arith}
use Rattle.lists.specs.Tests.{fails}
use Rattle.lists.proofs.Tests.{is_map, is_eqb, is_and}
use Rattle.chain_test.proofs.four_empty.Goals as goal

pub returns-then-size-chain : goal.returns-then-size-chain
returns-then-size-chain c = fails (λ four. let w = four.within in let h = c.if-size-chain.true in omega arith)

pub returns : goal.returns
returns c =
    let w = c.if-size-chain.false in
    is_map
    (λ h. record { within = omega arith; first = h.0.0.0; second = h.0.0.1; third = h.0.1; fourth = h.1 })
    (λ four. (((four.first, four.second), four.third), four.fourth))
    (is_and (is_and (is_and (is_eqb _ 0) (is_eqb _ 0)) (is_eqb _ 0)) (is_eqb _ 0))
