-- `take_message` does what its program does: the chain's pop is the program's two puts.
use Rattle.chain.proofs.Laws.{only_links}
use Rattle.mailboxes.proofs.Effects.{taken}
use Rattle.chain.proofs.Laws.{only_links}
use Rattle.mailboxes.proofs.take_message.Goals as goal

pub returns : goal.returns
returns c = rw (c.finished-answer.ensures, only_links c.pop-message.new.self c.pop-message.ensures.keys) (taken c.requires c.pop-message.ensures.popped)
