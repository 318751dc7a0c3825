-- `delete` ends the waits, frees the messages and puts the undefined row.
use Rattle.chain.proofs.Laws.{only_links}
use Rattle.mailboxes.proofs.Objects.{messages_left, deleted}
use Rattle.mailboxes.proofs.delete.Goals as goal

pub clear-requires : goal.clear-requires
clear-requires c = messages_left c.requires c.end_all.ensures

pub returns : goal.returns
returns c = rw (c.finished-answer.ensures, only_links c.clear.new.self c.clear.ensures.keys) (deleted c.requires c.end_all.ensures c.clear.ensures.cleared)
