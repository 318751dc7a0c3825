-- `pop` lets the head's cell hold what the first number's cell holds, so the list loses its first number.
use mathlib.Core.Path.{refl}
use native.Mathlib.Omega.{arith}
use Rattle.chain.proofs.Changes.{popped_cell, popped, popped_none}
use Rattle.chain.proofs.Chains.pop.Goals as goal

pub bounds-self-x : goal.bounds-self-x
bounds-self-x c =
    let h = popped_cell c.requires refl c.if-first-ne0.true in
    omega arith

pub returns-then-first-ne0-clause-popped : goal.returns-then-first-ne0-clause-popped
returns-then-first-ne0-clause-popped c = popped c.requires refl c.if-first-ne0.true refl

pub returns-else-first-ne0-clause-popped : goal.returns-else-first-ne0-clause-popped
returns-else-first-ne0-clause-popped c = popped_none c.requires refl c.if-first-ne0.false
