-- Document 01, "A sound record": its sentences, over rows. "Well-formed" is our word for what rows can show of a sound record. What the record must be beside
-- that, so that rows can be read from it (chains that end, rings in range), stands with the record.
use Rattle.std.specs.Prelude.{◌≡◌, Bool, not, cond, [], ◌∷◌, map, ℕ, ◌+◌, ◌-◌, ◌%◌, ◌<◌, ◌≤◌, T, eqb, length}
use Rattle.std.proofs.Math.Option.{Option, none, some}
use Rattle.lists.specs.Lists.{empty, InOrder, StandsWhereNamed}
use Rattle.lists.specs.Options.{IfSome}
use Rattle.rows.specs.Program as Program
use Rattle.model.specs.Sizes.{capacity_limit, priority_limit, end_limit, counter_span}
use Rattle.model.specs.Rows.{Key, task, suspension, queue, mailbox, message, valid, Row, TaskRow, QueueRow, MailboxRow, MessageRow, Model}
use Rattle.model.specs.Rows.{messages_by_priority, nothing, empty_state}
use Rattle.model.specs.Codes.{Code, E_OK, E_RLWAI, E_TMOUT, E_DLT, code_in}
use Rattle.model.specs.Calls.{Call}
use Rattle.model.specs.Waits.{Wait, NoWait, End, Never, At, wait_end, WaitQueue, wait_queue, object_named}
use Rattle.model.specs.WaitQueues.{standing_in, by_priority}
use Rattle.model.specs.Step.{step}

-- The mailbox that a message's row names.
abbrev pub named_mailbox : MessageRow → Option ℕ
named_mailbox x = cond (eqb x.queued_in 0) none (some x.queued_in)

-- ── A task by itself ──

-- The object that a wait names has a valid number ("in range").
abbrev pub ObjectInRange : Wait → Type 0
ObjectInRange w = IfSome (λ k. T (valid k)) (object_named w)

-- The codes that may be stored with a task: E_OK, and those of a wait that didn't succeed.
abbrev pub ends_a_wait : Code → Bool
ends_a_wait code = code_in code (E_OK ∷ E_RLWAI ∷ E_TMOUT ∷ E_DLT ∷ [])

-- How many ticks bring the counter from where it is to this tick.
abbrev pub ticks_left : ℕ → ℕ → ℕ
ticks_left counter tick = (tick + (counter_span - counter)) % counter_span

-- The tick is a number of the counter's, and lies ahead, not too far: the counter hasn't come to it.
pub record TickAhead (counter tick : ℕ) : Type 0 where
  pub in_range : tick < counter_span
  pub not_sooner : 1 ≤ ticks_left counter tick
  pub not_later : ticks_left counter tick ≤ end_limit

abbrev pub EndAhead : ℕ → End → Type 0
EndAhead counter Never = Unit
EndAhead counter (At tick) = TickAhead counter tick

pub record TaskWellFormed (x : TaskRow) : Type 0 where
  -- Whatever isn't defined doesn't wait.
  pub undefined : T (not x.defined) → x.wait ≡ NoWait
  -- Priority and object are in range.
  pub priority_in_range : T x.defined → (1 ≤ x.priority) × (x.priority ≤ priority_limit)
  pub object_in_range : ObjectInRange x.wait
  -- The stored code is one that a wait can end with.
  pub code : T (ends_a_wait x.code)

-- ── A data queue by itself ──

pub record QueueWellFormed (x : QueueRow) : Type 0 where
  -- At a queue that isn't defined nobody waits, and nothing is stored in it.
  pub undefined : T (not x.defined) → (x.words ≡ []) × (x.senders ≡ []) × (x.receivers ≡ [])
  -- Attribute and capacity are in range.
  pub attribute_in_range : x.attribute ≤ 1
  pub capacity_in_range : x.capacity ≤ capacity_limit
  -- What is stored fits.
  pub count : length x.words ≤ x.capacity
  -- Where a sender waits there is no room, and nobody to take its word.
  pub senders : T (not (empty x.senders)) → (length x.words ≡ x.capacity) × (x.receivers ≡ [])
  -- Where a receiver waits there is no word to be had, from the store or from a sender.
  pub receivers : T (not (empty x.receivers)) → (x.words ≡ []) × (x.senders ≡ [])

-- ── A mailbox by itself ──

pub record MailboxWellFormed (x : MailboxRow) : Type 0 where
  -- At a mailbox that isn't defined nobody waits, and no message is queued in it.
  pub undefined : T (not x.defined) → (x.waiters ≡ []) × (x.messages ≡ [])
  -- The attribute is in range, and with attribute 2 or 3 the highest message priority. Without, the latter isn't kept, and nothing is asked of it.
  pub attribute_in_range : x.attribute ≤ 3
  pub highest_in_range : T (messages_by_priority x.attribute) → (1 ≤ x.highest) × (x.highest ≤ priority_limit)
  -- Where a task waits no message is queued.
  pub waiters : T (not (empty x.waiters)) → x.messages ≡ []

-- ── All rows ──

pub record WellFormedRows (m : Program.Rows Row) : Type 0 where
  -- Whoever waits stands in the wait queue that its wait names, once and in no other, and nobody else stands in one.
  pub waiting : StandsWhereNamed (standing_in m) (λ t. wait_queue (m (task t)).wait)
  -- The same of messages and the mailboxes that they are queued in.
  pub queued : StandsWhereNamed (λ b. (m (mailbox b)).messages) (λ g. named_mailbox (m (message g)))
  -- In a wait queue by priority the numbers never fall.
  pub waiting_in_order : (k : WaitQueue) → T (by_priority m k) → InOrder 1 priority_limit (map (λ t. (m (task t)).priority) (standing_in m k))
  -- Nor in a message queue by priority; and each of them is from 1 to the mailbox's highest.
  pub queued_in_order : (b : ℕ) → T (messages_by_priority (m (mailbox b)).attribute)
      → InOrder 1 (m (mailbox b)).highest (map (λ g. (m (message g)).priority) (m (mailbox b)).messages)
  -- Each object and each task by itself.
  pub queues : (q : ℕ) → QueueWellFormed (m (queue q))
  pub mailboxes : (b : ℕ) → MailboxWellFormed (m (mailbox b))
  pub tasks : (t : ℕ) → TaskWellFormed (m (task t))
  -- Only a task that is defined is suspended.
  pub suspensions : (t : ℕ) → T (m (suspension t)) → T (m (task t)).defined
  -- Beyond the limits of its kind nothing has a number.
  pub in_range : (k : Key) → T (not (valid k)) → m k ≡ nothing k

pub record WellFormed (m : Model) : Type 0 where
  pub counter_in_range : m.environment.counter < counter_span
  pub rows : WellFormedRows m.rows
  -- An end tick, where there is one, is ahead.
  pub ends : (t : ℕ) → EndAhead m.environment.counter (wait_end (m.rows (task t)).wait)

-- ── Statements ──

-- Every call, accepted or refused, of known or unknown number, and the tick keep a model well-formed.
abbrev pub KeptWellFormed : Type 0
KeptWellFormed = (m : Model) (c : Call) → WellFormed m → WellFormed (step m c).state

abbrev pub EmptyWellFormed : Type 0
EmptyWellFormed = (counter : ℕ) → counter < counter_span → WellFormed (empty_state counter)
