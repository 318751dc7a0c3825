-- Document 01, "A sound record".
use Rattle.std.specs.Prelude.{◌≡◌, ℕ, ◌≤◌, T, length}
use Rattle.chain.specs.Table.{key_cells}
use Rattle.chain.specs.Table as chain
use Rattle.model.specs.Sizes.{task_limit, message_limit}
use Rattle.model.specs.Rows.{queue, mailbox, valid}
use Rattle.model.specs.WellFormed.{WellFormed}
use Rattle.parts.specs.Chains.{task_chains, message_chains}
use Rattle.parts.specs.Queues.{QueueReadable}
use Rattle.record.specs.declared.State.{State}
use Rattle.record.specs.Meaning.{abs, queue_at, mailbox_at}

-- The sizes that the record's type gives its arrays: they hold of every record, and stand here so that whoever has a sound record has them. Those of the links
-- stand in `chain.Sound`; the rings' words need none.
pub record Sizes (s : State) : Type 0 where
  pub tasks : length s.tasks ≡ 33
  pub queues : length s.queues ≡ 17
  pub mailboxes : length s.mailboxes ≡ 17
  pub task_keys : length s.waiting.key ≡ key_cells
  pub message_keys : length s.messages.key ≡ key_cells

-- Rows can be read from the record (our own term).
pub record Readable (s : State) : Type 0 where
  pub sizes : Sizes s
  -- Each chain ends, after 32 tasks or 64 messages at the latest, and has only numbers of its kind; no number stands in two places.
  pub waiting : chain.Sound task_limit task_chains s.waiting.link
  pub messages : chain.Sound message_limit message_chains s.messages.link
  -- Each object is defined or it isn't, and a data queue that is has a ring with its numbers in range.
  pub queues : (q : ℕ) → T (valid (queue q)) → QueueReadable (queue_at s q)
  pub mailboxes : (b : ℕ) → T (valid (mailbox b)) → (mailbox_at s b).defined ≤ 1

-- "Sound" is document 01's word: rows can be read from the record, and they are as they should be.
pub record Sound (s : State) : Type 0 where
  pub readable : Readable s
  pub well_formed : WellFormed (abs s)
