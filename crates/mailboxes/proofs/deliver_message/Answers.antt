-- `deliver_message` does what its program does: the chain's pop and the head's new record are the program's two puts.
use native.Mathlib.Omega.{arith}
use Rattle.chain.proofs.Laws.{only_links}
use Rattle.waits.proofs.Moves.{head_range}
use Rattle.mailboxes.proofs.Effects.{releasable, delivered}
use Rattle.mailboxes.proofs.deliver_message.Goals as goal

pub bounds-state-t : goal.bounds-state-t
bounds-state-t c = let h = head_range (releasable c.requires) c.pop-t.ensures.popped in omega arith

pub bounds-state-t-2 : goal.bounds-state-t-2
bounds-state-t-2 c = let h = head_range (releasable c.requires) c.pop-t.ensures.popped in omega arith

pub returns : goal.returns
returns c = rw (c.finished-answer.ensures, only_links c.pop-t.new.self c.pop-t.ensures.keys) (delivered c.requires c.pop-t.ensures.popped c.ended.ensures)
