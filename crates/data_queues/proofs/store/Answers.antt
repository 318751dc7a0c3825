-- `store` stores the word behind the others: by what the ring's push promises.
use Rattle.data_queues.proofs.Laws.{ring_in_range, room_left}
use Rattle.data_queues.proofs.Sending.{stores}
use Rattle.data_queues.proofs.store.Goals as goal

pub push-requires : goal.push-requires
push-requires c = (ring_in_range c.requires.0, room_left c.requires.0 c.requires.1)

pub returns : goal.returns
returns c = stores c.requires.0 c.finished-answer.ensures c.push.ensures
