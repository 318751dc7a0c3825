-- Document 01, "A sound record", what equal states agree on: the state as a table of rows, with the tick counter beside it.
use Rattle.std.specs.Prelude.{Bool, false, List, [], ◌∷◌, ℕ, eqb, ltb, length}
use Rattle.std.proofs.Math.Decide.{ℕ_discrete}
use Rattle.lists.specs.Lists.{one_of}
use Rattle.rows.specs.Program.{Program, Configuration}
use Rattle.rows.specs.Program as Program
use Rattle.model.specs.Sizes.{task_limit, queue_limit, mailbox_limit, message_limit, within}
use Rattle.model.specs.declared.Answer.{Answer}
use Rattle.model.specs.declared.Code.{Code}
use Rattle.model.specs.declared.Code.TheVariants.{Ok}
use Rattle.model.specs.declared.Wait.{Wait}
use Rattle.model.specs.declared.Wait.TheVariants.{NoWait}

-- A row is found by its kind and number. A task's suspension is a row of its own, kept beside its wait.
pub data Key : Type 0 where
  task suspension queue mailbox message : ℕ → Key
  deriving Discrete as Key_discrete

-- Decides whether two keys are equal.
unfoldable pub same_key : Discrete Key
same_key = Key_discrete ℕ_discrete

-- "Valid" is document 01's word: not 0, and within the limit of its kind.
abbrev pub valid : Key → Bool
valid (task n) = within 1 task_limit n
valid (suspension n) = within 1 task_limit n
valid (queue n) = within 1 queue_limit n
valid (mailbox n) = within 1 mailbox_limit n
valid (message n) = within 1 message_limit n

-- The code and the word that the last wait ended with stand in the task's row.
pub record TaskRow : Type 0 where
  pub defined : Bool
  pub priority : ℕ
  pub wait : Wait
  pub code : Code
  pub word : ℕ

-- The stored words, oldest first, and the two wait queues, head first.
pub record QueueRow : Type 0 where
  pub defined : Bool
  pub attribute : ℕ
  pub capacity : ℕ
  pub words : List ℕ
  pub senders : List ℕ
  pub receivers : List ℕ

-- The wait queue and the queued messages, head first.
pub record MailboxRow : Type 0 where
  pub defined : Bool
  pub attribute : ℕ
  pub highest : ℕ
  pub waiters : List ℕ
  pub messages : List ℕ

-- The mailbox that the message is queued in, 0 for none, and the priority kept with it.
pub record MessageRow : Type 0 where
  pub queued_in : ℕ
  pub priority : ℕ

abbrev pub Row : Key → Type 0
Row (task n) = TaskRow
Row (suspension n) = Bool
Row (queue n) = QueueRow
Row (mailbox n) = MailboxRow
Row (message n) = MessageRow

-- What calls read and only the tick changes.
pub record Environment : Type 0 where
  pub counter : ℕ

abbrev pub Model : Type 0
Model = Configuration Environment Row

-- What a call does to the rows, up to its answer.
abbrev pub Effect : Type 0
Effect = Program Key Row Answer

-- Data queue attribute 1: senders wait by task priority.
abbrev pub senders_by_priority : ℕ → Bool
senders_by_priority attribute = eqb attribute 1

-- A mailbox attribute is a sum: 1 where waiters go by task priority, 2 where messages go by theirs.
abbrev pub waiters_by_priority : ℕ → Bool
waiters_by_priority attribute = one_of attribute (1 ∷ 3 ∷ [])

abbrev pub messages_by_priority : ℕ → Bool
messages_by_priority attribute = one_of attribute (2 ∷ 3 ∷ [])

abbrev pub has_room : QueueRow → Bool
has_room x = ltb (length x.words) x.capacity

-- The rows of what is undefined. What document 01 doesn't keep of it reads as 0, so that two states are equal exactly when their rows are.
abbrev pub no_task : TaskRow
no_task = record { defined = false; priority = 0; wait = NoWait; code = Ok; word = 0 }

abbrev pub no_queue : QueueRow
no_queue = record { defined = false; attribute = 0; capacity = 0; words = []; senders = []; receivers = [] }

abbrev pub no_mailbox : MailboxRow
no_mailbox = record { defined = false; attribute = 0; highest = 0; waiters = []; messages = [] }

abbrev pub free : MessageRow
free = record { queued_in = 0; priority = 0 }

-- The rows of the empty state: nothing is defined, nothing is queued.
abbrev pub nothing : Program.Rows Row
nothing (task n) = no_task
nothing (suspension n) = false
nothing (queue n) = no_queue
nothing (mailbox n) = no_mailbox
nothing (message n) = free

-- The empty state, at any counter.
abbrev pub empty_state : ℕ → Model
empty_state counter = record { environment = record { counter = counter }; rows = nothing }

-- A row with a part of it changed.
abbrev pub with_words : List ℕ → QueueRow → QueueRow
with_words words x =
    record { defined = x.defined; attribute = x.attribute; capacity = x.capacity; words = words; senders = x.senders; receivers = x.receivers }

abbrev pub with_senders : List ℕ → QueueRow → QueueRow
with_senders senders x =
    record { defined = x.defined; attribute = x.attribute; capacity = x.capacity; words = x.words; senders = senders; receivers = x.receivers }

abbrev pub with_receivers : List ℕ → QueueRow → QueueRow
with_receivers receivers x =
    record { defined = x.defined; attribute = x.attribute; capacity = x.capacity; words = x.words; senders = x.senders; receivers = receivers }

abbrev pub with_waiters : List ℕ → MailboxRow → MailboxRow
with_waiters waiters x = record { defined = x.defined; attribute = x.attribute; highest = x.highest; waiters = waiters; messages = x.messages }

abbrev pub with_messages : List ℕ → MailboxRow → MailboxRow
with_messages messages x = record { defined = x.defined; attribute = x.attribute; highest = x.highest; waiters = x.waiters; messages = messages }
