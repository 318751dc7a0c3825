-- `take_from_sender` pops the head sender, ends its wait and hands out its word.
use mathlib.Core.Path.{ap, ◌∙◌}
use native.Mathlib.Omega.{arith}
use Rattle.model.specs.Codes.{finished}
use Rattle.model.specs.declared.Code.TheVariants.{Ok as E-OK}
use Rattle.chain.proofs.Laws.{only_links}
use Rattle.waits.proofs.Moves.{head_range, released_all}
use Rattle.data_queues.proofs.Laws.{sender_releasable}
use Rattle.data_queues.proofs.Receiving.{sender_word, takes_from_sender}
use Rattle.data_queues.proofs.take_from_sender.Goals as goal

pub bounds-state-t : goal.bounds-state-t
bounds-state-t c =
    let a = c.requires in
    let h = head_range (sender_releasable a.0 a.1) c.pop-t.ensures.popped in
    omega arith

pub bounds-state-t-2 : goal.bounds-state-t-2
bounds-state-t-2 c =
    let a = c.requires in
    let h = head_range (sender_releasable a.0 a.1) c.pop-t.ensures.popped in
    omega arith

pub returns : goal.returns
returns c =
    let a = c.requires in
    let popped = c.pop-t.ensures.popped in
    let word-is = c.held_word-word.ensures ∙ sender_word a.0 popped.first_is a.1 in
    let released = released_all (sender_releasable a.0 a.1) popped _ _ c.ended.ensures in
    rw (only_links c.pop-t.new.self c.pop-t.ensures.keys)
    (takes_from_sender a.0 released (c.finished-answer.ensures ∙ ap (λ n. finished E-OK n 0 0) word-is))
