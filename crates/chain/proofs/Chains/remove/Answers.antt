-- `remove` lets the cell ahead of the number hold what the number's own cell holds, so the list loses it.
use mathlib.Core.Path.{refl}
use native.Mathlib.Omega.{arith}
use Rattle.chain.proofs.Changes.{walk_from_head, removed_cell, removed}
use Rattle.chain.proofs.Chains.remove.Goals as goal

pub find-found-requires : goal.find-found-requires
find-found-requires c = walk_from_head c.requires.0

pub bounds-self-x : goal.bounds-self-x
bounds-self-x c =
    let h = removed_cell c.requires.0 c.requires.1 in
    omega arith

pub returns-clause-removed : goal.returns-clause-removed
returns-clause-removed c = removed c.requires.0 c.requires.1 c.find-found.ensures refl
