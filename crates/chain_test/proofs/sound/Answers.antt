-- `sound` is exact. The invariant: the chains passed are chains, and the marks say which number stands in which of them. The chains left get fewer.
use Prim.Native.Nat.{◌+◌}
use mathlib.Core.Path.{◌≡◌}
use native.Mathlib.Omega.{arith}
use Rattle.lists.proofs.Tests.{passed_test}
use Rattle.chain_test.proofs.Marks.{marked_below_none, marked_below_more, marked_below_four, tested_true, tested_false}
use Rattle.chain_test.proofs.sound.Goals as goal

pub loop-chain-init : goal.loop-chain-init
loop-chain-init c = (omega arith, omega arith, marked_below_none _ c.requires.1)

pub loop-chain-preserved-then-four_empty : goal.loop-chain-preserved-then-four_empty
loop-chain-preserved-then-four_empty c =
    let four = passed_test c.four_empty.ensures (rw c.if-four_empty.true tt) in
    let i = c.loop-chain.invariant in
    let w = four.within in
    (omega arith, omega arith, marked_below_four c.requires.0 i.0 i.2 four)

pub returns-then-not-mark : goal.returns-then-not-mark
returns-then-not-mark c =
    let i = c.loop-chain.invariant in
    tested_false i.0 c.loop-chain-test.true i.2 (rw (c.if-not-mark.true) at c.mark.ensures)

pub loop-chain-preserved : goal.loop-chain-preserved
loop-chain-preserved c =
    let i = c.loop-chain.invariant in
    let b = c.loop-chain-test.true in
    let m = rw (c.if-not-mark.false) at c.mark.ensures in
    (omega arith, omega arith, marked_below_more i.0 c.requires.0.keys_fit i.2 m)

pub returns : goal.returns
returns c =
    let i = c.loop-chain.invariant in
    let b = c.loop-chain-test.false in
    let e : c.loop-chain.chain ≡ c.args.size.chains + 1 = let h = i.1 in omega arith in
    tested_true c.requires.0 (rw e at i.2)
