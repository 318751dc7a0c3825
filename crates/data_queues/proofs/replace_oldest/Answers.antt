-- `replace_oldest` drops the oldest word and stores another: by what the ring promises.
use Rattle.data_queues.proofs.Laws.{ring_in_range, some_word}
use Rattle.data_queues.proofs.Sending.{replaces}
use Rattle.data_queues.proofs.replace_oldest.Goals as goal

pub drop_oldest_and_push-requires : goal.drop_oldest_and_push-requires
drop_oldest_and_push-requires c = (ring_in_range c.requires.0, some_word c.requires.0 c.requires.1)

pub returns : goal.returns
returns c = replaces c.requires.0 c.finished-answer.ensures c.drop_oldest_and_push.ensures
