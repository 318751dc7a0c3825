-- Document 01, "A sound record", of one data queue and those that wait at it: its row, and what the test of it decides.
use Rattle.std.specs.Prelude.{◌≡◌, Bool, cond, List, ◌⊎◌, ℕ, ◌≤◌, T, eqb, length}
use Rattle.lists.specs.Lists.{InOrder}
use Rattle.chain.specs.Table.{key_cells, keys_of}
use Rattle.chain.specs.Table as chain
use Rattle.ring.specs.Ring.{stored, InRange}
use Rattle.model.specs.Sizes.{task_limit, queue_limit, priority_limit}
use Rattle.model.specs.Rows.{QueueRow, senders_by_priority}
use Rattle.model.specs.WellFormed.{QueueWellFormed}
use Rattle.model.specs.Waits.{senders_of, receivers_of}
use Rattle.parts.specs.Chains.{task_chains, tasks_in}
use Rattle.parts.specs.declared.Queue.{Queue}

-- 1 says that the object is defined; a sound record has 0 where it isn't.
abbrev pub is_defined : ℕ → Bool
is_defined flag = eqb flag 1

-- What a queue's record means, with the tasks that wait at it. Of an undefined queue attribute and capacity aren't kept.
abbrev pub queue_row : Queue → List ℕ → List ℕ → QueueRow
queue_row x senders receivers = record {
  defined = is_defined x.defined;
  attribute = cond (is_defined x.defined) x.attribute 0;
  capacity = cond (is_defined x.defined) x.ring.capacity 0;
  words = stored x.ring;
  senders = senders;
  receivers = receivers;
}

-- Its numbers say something: it is defined or it isn't, and if it is, its ring's numbers are in range.
pub record QueueReadable (x : Queue) : Type 0 where
  pub flag : x.defined ≤ 1
  pub ring : T (is_defined x.defined) → InRange x.ring

-- Queue q, with the cells and keys of the table of waiting tasks.
pub record QueueSound (x : Queue) (link key : List ℕ) (q : ℕ) : Type 0 where
  pub readable : QueueReadable x
  pub row : QueueWellFormed (queue_row x (tasks_in link (senders_of q)) (tasks_in link (receivers_of q)))
  -- By priority, the senders' numbers never fall.
  pub senders_in_order : T (senders_by_priority (cond (is_defined x.defined) x.attribute 0))
      → InOrder 1 priority_limit (keys_of key (tasks_in link (senders_of q)))

-- What the test asks: the table is sound, and the number is a queue's.
pub record QueueTestable (q : ℕ) (link key : List ℕ) : Type 0 where
  pub low : 1 ≤ q
  pub high : q ≤ queue_limit
  pub table : chain.Sound task_limit task_chains link
  pub keys_count : length key ≡ key_cells

-- What a part of the test decides: a head sender only where the queue is full and has no receiver, a head receiver only where it is empty.
pub record MayWait (count capacity sender receiver : ℕ) : Type 0 where
  pub senders : (sender ≡ 0) ⊎ ((count ≡ capacity) × (receiver ≡ 0))
  pub receivers : (receiver ≡ 0) ⊎ (count ≡ 0)
