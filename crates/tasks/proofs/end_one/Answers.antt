-- `end_one` takes the task out of the chain that its wait names: by the law of a wait that ends.
use Rattle.std.proofs.Common.{refl}
use Rattle.chain.proofs.Laws.{only_links}
use Rattle.waits.proofs.Ends.{ended_all}
use Rattle.tasks.proofs.end_one.Goals as goal

pub returns : goal.returns
returns c =
    rw (only_links c.remove.new.self c.remove.ensures.keys)
    (ended_all c.requires (rw c.chain_named-chain.ensures at c.remove.ensures.removed) _ c.args.code refl _ c.ended.ensures)
