-- `find` stops ahead of the number, or at the end. The invariant: numbers passed and numbers still ahead of it make the place.
use mathlib.Core.Path.{refl}
use native.Mathlib.Omega.{arith}
use Rattle.chain.proofs.Walks.{shorter, place_small, finding_next, found_end, found_here}
use Rattle.chain.proofs.Chains.find.Goals as goal

pub returns-then-next-number : goal.returns-then-next-number
returns-then-next-number c = found_here c.loop-next.invariant c.loop-next-test.true c.if-next-number.true

pub overflow_add-place : goal.overflow_add-place
overflow_add-place c =
    let h = place_small c.loop-next.invariant.reached c.requires in
    let n = c.requires.keys_fit in
    omega arith

pub loop-next-smaller : goal.loop-next-smaller
loop-next-smaller c =
    let k = c.loop-next.invariant in
    (shorter k.reached.walk k.next_is c.loop-next-test.true)

pub loop-next-preserved : goal.loop-next-preserved
loop-next-preserved c = (finding_next c.loop-next.invariant c.loop-next-test.true c.if-next-number.false refl)

pub returns : goal.returns
returns c = found_end c.loop-next.invariant c.loop-next-test.false
