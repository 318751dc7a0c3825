-- `deliver` pops the head receiver and ends its wait with the word.
use native.Mathlib.Omega.{arith}
use Rattle.chain.proofs.Laws.{only_links}
use Rattle.waits.proofs.Moves.{head_range, released_all}
use Rattle.data_queues.proofs.Laws.{receiver_releasable}
use Rattle.data_queues.proofs.Sending.{delivers}
use Rattle.data_queues.proofs.deliver.Goals as goal

pub bounds-state-t : goal.bounds-state-t
bounds-state-t c =
    let a = c.requires in
    let h = head_range (receiver_releasable a.0 a.1) c.pop-t.ensures.popped in
    omega arith

pub bounds-state-t-2 : goal.bounds-state-t-2
bounds-state-t-2 c =
    let a = c.requires in
    let h = head_range (receiver_releasable a.0 a.1) c.pop-t.ensures.popped in
    omega arith

pub returns : goal.returns
returns c =
    let a = c.requires in
    let released = released_all (receiver_releasable a.0 a.1) c.pop-t.ensures.popped _ _ c.ended.ensures in
    rw (only_links c.pop-t.new.self c.pop-t.ensures.keys) (delivers a.0 c.finished-answer.ensures released)
