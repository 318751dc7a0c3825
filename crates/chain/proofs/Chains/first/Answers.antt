-- `first` reads the head's cell, which holds the first number of the list.
use Rattle.chain.proofs.Changes.{first_is}
use Rattle.chain.proofs.Chains.first.Goals as goal

pub returns : goal.returns
returns c = first_is c.requires
