-- `take_oldest` hands out the oldest word: by what the ring's pop promises.
use Rattle.data_queues.proofs.Laws.{ring_in_range, some_word}
use Rattle.data_queues.proofs.Receiving.{takes_oldest}
use Rattle.data_queues.proofs.take_oldest.Goals as goal

pub pop-taken-requires : goal.pop-taken-requires
pop-taken-requires c = let a = c.requires in (ring_in_range a.0, some_word a.0 a.1)

pub returns : goal.returns
returns c = takes_oldest c.requires.0 c.pop-taken.ensures c.finished-answer.ensures
