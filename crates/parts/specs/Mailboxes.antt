-- Document 01, "A sound record", of one mailbox with those that wait at it and its messages: its row, and what the test of it decides.
use Rattle.std.specs.Prelude.{◌≡◌, cond, List, ◌⊎◌, ℕ, ◌<◌, ◌≤◌, T, length}
use Rattle.lists.specs.Lists.{InOrder}
use Rattle.chain.specs.Table.{key_cells, keys_of}
use Rattle.chain.specs.Table as chain
use Rattle.model.specs.Sizes.{task_limit, mailbox_limit, message_limit, priority_limit}
use Rattle.model.specs.Rows.{MailboxRow, waiters_by_priority, messages_by_priority}
use Rattle.model.specs.WellFormed.{MailboxWellFormed}
use Rattle.model.specs.Waits.{waiters_of}
use Rattle.parts.specs.Chains.{task_chains, message_chains, tasks_in, messages_in}
use Rattle.parts.specs.Queues.{is_defined}
use Rattle.parts.specs.declared.Mailbox.{Mailbox}

-- The attribute that counts: of an undefined mailbox it isn't kept.
abbrev pub kept_attribute : Mailbox → ℕ
kept_attribute x = cond (is_defined x.defined) x.attribute 0

-- What a mailbox's record means, with the tasks that wait at it and its messages. The highest message priority is kept with attribute 2 or 3 alone.
abbrev pub mailbox_row : Mailbox → List ℕ → List ℕ → MailboxRow
mailbox_row x waiters messages = record {
  defined = is_defined x.defined;
  attribute = kept_attribute x;
  highest = cond (messages_by_priority (kept_attribute x)) x.highest 0;
  waiters = waiters;
  messages = messages;
}

-- Mailbox b, with the cells and keys of the tables of waiting tasks and of queued messages.
pub record MailboxSound (x : Mailbox) (link key message_link message_key : List ℕ) (b : ℕ) : Type 0 where
  -- It is defined or it isn't.
  pub flag : x.defined ≤ 1
  pub row : MailboxWellFormed (mailbox_row x (tasks_in link (waiters_of b)) (messages_in message_link b))
  -- By priority, the waiters' numbers never fall.
  pub waiters_in_order : T (waiters_by_priority (kept_attribute x)) → InOrder 1 priority_limit (keys_of key (tasks_in link (waiters_of b)))
  -- Nor do the messages', and each of them is from 1 to the mailbox's highest.
  pub messages_in_order : T (messages_by_priority (kept_attribute x)) → InOrder 1 x.highest (keys_of message_key (messages_in message_link b))

-- What the test asks: both tables are sound, and the number is a mailbox's.
pub record MailboxTestable (b : ℕ) (link key message_link message_key : List ℕ) : Type 0 where
  pub low : 1 ≤ b
  pub high : b ≤ mailbox_limit
  pub tasks_table : chain.Sound task_limit task_chains link
  pub keys_count : length key ≡ key_cells
  pub messages_table : chain.Sound message_limit message_chains message_link
  pub message_keys_count : length message_key ≡ key_cells

-- What a part of the test decides.
pub record MailboxNumbersSound (attribute highest : ℕ) : Type 0 where
  pub attribute_in_range : attribute ≤ 3
  pub highest_in_range : (attribute < 2) ⊎ ((1 ≤ highest) × (highest ≤ priority_limit))
