-- `clear` empties the list: the head's cell ends the chain.
use Rattle.chain.proofs.Changes.{cleared}
use Rattle.chain.proofs.Chains.clear.Goals as goal

pub returns-clause-cleared : goal.returns-clause-cleared
returns-clause-cleared c = cleared c.requires
