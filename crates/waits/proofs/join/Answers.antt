-- `join` puts the task into the chain, behind those that its limit passes, and starts the wait: the chain's insert, and the task's new record.
use native.Mathlib.Omega.{arith}
use Rattle.chain.proofs.Laws.{only_links}
use Rattle.waits.proofs.Moves.{insertable, place_fits, joined_all}
use Rattle.waits.proofs.join.Goals as goal

pub insert-place-requires : goal.insert-place-requires
insert-place-requires c = rw c.chain_named-chain.ensures (insertable c.requires)

pub overflow_cast-result : goal.overflow_cast-result
overflow_cast-result c =
    let behind = rw c.key.ensures at c.limit-behind.ensures in
    let h = place_fits c.requires c.args.ranked behind (rw c.chain_named-chain.ensures at c.insert-place.ensures.inserted) in
    omega arith

pub returns : goal.returns
returns c =
    let behind = rw c.key.ensures at c.limit-behind.ensures in
    rw (only_links c.insert-place.new.self c.insert-place.ensures.keys)
    (joined_all c.requires _ behind (rw c.chain_named-chain.ensures at c.insert-place.ensures.inserted) _ _ c.started.ensures)
