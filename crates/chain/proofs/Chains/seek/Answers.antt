-- `seek` stops behind the last key that the limit passes. The invariant: keys passed and keys still to be passed make the place.
use mathlib.Core.Path.{refl}
use native.Mathlib.Omega.{arith}
use Rattle.chain.proofs.Walks.{shorter, place_small, seeking_next, sought_end, sought_stop, passes_yes, passes_no, passes_some}
use Rattle.chain.proofs.Chains.seek.Goals as goal

pub returns-then-not-passes : goal.returns-then-not-passes
returns-then-not-passes c =
    let f = c.if-not-passes.true in
    let p = c.passes.ensures in
    sought_stop _ c.loop-next.invariant c.loop-next-test.true (passes_no p f) (passes_some p f)

pub overflow_add-place : goal.overflow_add-place
overflow_add-place c =
    let h = place_small c.loop-next.invariant.reached c.requires in
    let n = c.requires.keys_fit in
    omega arith

pub loop-next-smaller : goal.loop-next-smaller
loop-next-smaller c =
    let k = c.loop-next.invariant in
    shorter k.reached.walk k.next_is c.loop-next-test.true

pub loop-next-preserved : goal.loop-next-preserved
loop-next-preserved c =
    let t = c.if-not-passes.false in
    seeking_next _ c.loop-next.invariant c.loop-next-test.true (passes_yes c.passes.ensures t) refl

pub returns : goal.returns
returns c = sought_end _ c.loop-next.invariant c.loop-next-test.false
