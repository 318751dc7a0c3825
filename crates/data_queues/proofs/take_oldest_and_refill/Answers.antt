-- `take_oldest_and_refill` hands out the oldest word, pops the head sender, stores its word and ends its wait: by what the chain and the ring promise.
use mathlib.Core.Path.{◌∙◌}
use native.Mathlib.Omega.{arith}
use Rattle.chain.proofs.Laws.{only_links}
use Rattle.waits.proofs.Moves.{head_range, released_all}
use Rattle.data_queues.proofs.Laws.{ring_in_range, sender_releasable, some_word}
use Rattle.data_queues.proofs.Receiving.{sender_word, room_again, takes_oldest_and_refills}
use Rattle.data_queues.proofs.take_oldest_and_refill.Goals as goal

pub bounds-state-t : goal.bounds-state-t
bounds-state-t c =
    let a = c.requires in
    let h = head_range (sender_releasable a.0 a.2) c.pop-t.ensures.popped in
    omega arith

pub bounds-state-t-2 : goal.bounds-state-t-2
bounds-state-t-2 c =
    let a = c.requires in
    let h = head_range (sender_releasable a.0 a.2) c.pop-t.ensures.popped in
    omega arith

pub pop-oldest-requires : goal.pop-oldest-requires
pop-oldest-requires c = let a = c.requires in (ring_in_range a.0, some_word a.0 a.1)

pub push-requires : goal.push-requires
push-requires c =
    let taken = c.pop-oldest.ensures in
    (taken.kept.in_range, room_again c.requires.0 taken)

pub returns : goal.returns
returns c =
    let a = c.requires in
    let popped = c.pop-t.ensures.popped in
    let word-is = c.held_word-word.ensures ∙ sender_word a.0 popped.first_is a.2 in
    let released = released_all (sender_releasable a.0 a.2) popped _ _ c.ended.ensures in
    rw (only_links c.pop-t.new.self c.pop-t.ensures.keys)
    (takes_oldest_and_refills a.0 c.pop-oldest.ensures released word-is c.push.ensures c.finished-answer.ensures)
