-- Document 01, "A sound record", what equal states agree on: the rows that a record means.
--
-- Free, and seen by no caller: cell 0 of every array; keys above 32 of the table of waiting tasks; links of numbers that stand in no chain; keys of messages
-- that keep no priority; of whatever isn't defined the attribute, the capacity, the head of the ring, the highest message priority, the priority and the stored
-- pair; the highest message priority without attribute 2; where a ring starts, and its cells outside the stored words; spare bytes.
use Rattle.std.specs.Prelude.{Bool, false, cond, List, [], ℕ, get_or}
use Rattle.rows.specs.Program as Program
use Rattle.chain.specs.Table.{lists, chain_of}
use Rattle.model.specs.Sizes.{message_limit}
use Rattle.model.specs.Rows.{task, suspension, queue, mailbox, message, valid, Row, MessageRow, Model, messages_by_priority}
use Rattle.model.specs.Calls.{row_if_valid}
use Rattle.model.specs.Waits.{senders_of, receivers_of, waiters_of}
use Rattle.model.specs.declared.Wait.TheVariants.{NoWait}
use Rattle.parts.specs.Chains.{message_chains, tasks_in, messages_in}
use Rattle.parts.specs.Tasks.{task_row}
use Rattle.parts.specs.Queues.{queue_row}
use Rattle.parts.specs.Mailboxes.{kept_attribute, mailbox_row}
use Rattle.parts.specs.declared.Task.{Task}
use Rattle.parts.specs.declared.Queue.{Queue}
use Rattle.parts.specs.declared.Mailbox.{Mailbox}
use Rattle.record.specs.declared.State.{State}

-- What is read outside an array.
abbrev pub zero_task : Task
zero_task = record { wait = NoWait; word = 0; code = 0; defined = false; suspended = false }

abbrev pub zero_queue : Queue
zero_queue = record { ring = record { words = []; head = 0; count = 0; capacity = 0; spare = 0 }; defined = 0; attribute = 0; spare = 0 }

abbrev pub zero_mailbox : Mailbox
zero_mailbox = record { defined = 0; attribute = 0; highest = 0 }

-- What stands at a number.
abbrev pub task_at : State → ℕ → Task
task_at s t = get_or s.tasks t zero_task

abbrev pub queue_at : State → ℕ → Queue
queue_at s q = get_or s.queues q zero_queue

abbrev pub mailbox_at : State → ℕ → Mailbox
mailbox_at s b = get_or s.mailboxes b zero_mailbox

-- The mailbox that a message is queued in, 0 for none: read from the cells of the table of queued messages.
unfoldable pub mailbox_of : List ℕ → ℕ → ℕ
mailbox_of link g = chain_of g (lists message_limit message_chains link)

-- Whether the messages of mailbox b keep a priority. Number 0 is no mailbox.
abbrev pub keeps_priorities : List Mailbox → ℕ → Bool
keeps_priorities mailboxes b = cond (valid (mailbox b)) (messages_by_priority (kept_attribute (get_or mailboxes b zero_mailbox))) false

-- What the cells and keys of the table of queued messages say of a message. Its priority is kept where its mailbox goes by priority.
abbrev pub message_row : List ℕ → List ℕ → List Mailbox → ℕ → MessageRow
message_row link key mailboxes g = record { queued_in = mailbox_of link g; priority = cond (keeps_priorities mailboxes (mailbox_of link g)) (get_or key g 0) 0 }

-- What the cells of a number say.
abbrev pub cells_of : State → Program.Rows Row
cells_of s (task t) = task_row (task_at s t) (get_or s.waiting.key t 0)
cells_of s (suspension t) = (task_at s t).suspended
cells_of s (queue q) = queue_row (queue_at s q) (tasks_in s.waiting.link (senders_of q)) (tasks_in s.waiting.link (receivers_of q))
cells_of s (mailbox b) = mailbox_row (mailbox_at s b) (tasks_in s.waiting.link (waiters_of b)) (messages_in s.messages.link b)
cells_of s (message g) = message_row s.messages.link s.messages.key s.mailboxes g

-- What a record means (`abs` stands for abstraction). Cells of numbers that aren't valid don't count.
unfoldable pub abs : State → Model
abs s = record { environment = record { counter = s.counter }; rows = λ k. row_if_valid (cells_of s) k }
