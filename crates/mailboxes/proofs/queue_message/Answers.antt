-- `queue_message` does what its program does: the chain's insert is the program's two puts, and the message's key its priority.
use Rattle.std.proofs.Common.{◌≡◌, refl, arith}
use mathlib.Core.Bool.{cond}
use Rattle.chain.proofs.Laws.{only_links, inserted_place}
use Rattle.mailboxes.proofs.Effects.{on_messages, rank_fits, queue_insertable, queued}
use Rattle.mailboxes.proofs.queue_message.Goals as goal
use Rattle.mailboxes.proofs.queue_message.Goals.{then-ranked, else-ranked}

pub overflow_cast-rank : goal.overflow_cast-rank
overflow_cast-rank c =
    let h = rank_fits c.requires c.ranks_messages-ranked.ensures (rw c.if-ranked.true tt) in
    omega arith

pub insert-place-requires : goal.insert-place-requires
insert-place-requires c = rw c.set_key.ensures (queue_insertable c.requires _)

pub overflow_cast-place : goal.overflow_cast-place
overflow_cast-place c =
    let h = inserted_place (rw c.set_key.ensures at c.insert-place.ensures.inserted) (on_messages c.requires.on) in
    omega arith

pub returns : goal.returns
returns c =
    let rank_is : c.if-ranked.rank ≡ cond c.ranks_messages-ranked.result c.args.priority 0 = elim c.if-ranked.branch [
      | then-ranked w ↦ rw (w.rank-is, w.if-ranked.true) refl
      | else-ranked w ↦ rw (w.rank-is, w.if-ranked.false) refl
    ] in
    rw (c.finished-answer.ensures, only_links c.insert-place.new.self c.insert-place.ensures.keys, c.set_key.ensures)
    (queued c.requires c.ranks_messages-ranked.ensures rank_is c.limit-behind.ensures (rw c.set_key.ensures at c.insert-place.ensures.inserted))
