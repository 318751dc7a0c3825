-- `insert` puts the number between the cell that `seek` found and what that cell held, so the list has it at the place.
use mathlib.Core.Path.{refl}
use Rattle.chain.proofs.Changes.{walk_from_head, inserted}
use Rattle.chain.proofs.Chains.insert.Goals as goal

pub seek-spot-requires : goal.seek-spot-requires
seek-spot-requires c = walk_from_head c.requires.has

pub returns-clause-inserted : goal.returns-clause-inserted
returns-clause-inserted c = inserted c.requires c.seek-spot.ensures refl
