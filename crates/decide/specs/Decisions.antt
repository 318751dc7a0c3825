-- What each decision stands for: the definition's program of that name, on the rows of the state; what it asks of them; and what `decide` promises.
use Rattle.std.specs.Prelude.{◌≡◌, ℕ, ◌≤◌, Bool, false, not, T, ◌==◌}
use mathlib.Core.List.{head_d}
use Rattle.lists.specs.Lists.{empty}
use Rattle.rows.specs.Program as Program
use Rattle.rows.specs.Program.{Result, return, run}
use Rattle.model.specs.Sizes.{capacity_limit}
use Rattle.model.specs.Rows.{task, queue, mailbox, message, same_key, valid, Row, Model, Effect, has_room}
use Rattle.model.specs.Rows.{senders_by_priority, waiters_by_priority, messages_by_priority}
use Rattle.model.specs.Codes.{finished, done, refuse}
use Rattle.model.specs.Calls.{is_tick, view_of}
use Rattle.model.specs.Errors.{refused, refusal}
use Rattle.model.specs.Waits.{able}
use Rattle.model.specs.WaitQueues.{end_wait}
use Rattle.model.specs.Tasks.{define, set_suspension, tick}
use Rattle.model.specs.DataQueues as queues
use Rattle.model.specs.Mailboxes as mailboxes
use Rattle.model.specs.Step.{step}
use Rattle.errors.specs.Seen.{SeenFor}
use Rattle.errors.specs.declared.Seen.{Seen}
use Rattle.model.specs.declared.Answer.{Answer}
use Rattle.model.specs.declared.Call.{Call}
use Rattle.model.specs.declared.Code.TheVariants.{Rlwai as E_RLWAI}
use Rattle.model.specs.declared.Wait.{Wait}
use Rattle.model.specs.declared.Wait.TheVariants.{NoWait, Sending, Receiving, AtMailbox}
use Rattle.decide.specs.declared.Decision.{Decision}
use Rattle.decide.specs.declared.Decision.TheVariants.{Refuse, Say, Tick, DefineTask, EndWait, Suspend, CreateQueue, DeleteQueue, Deliver, Store}
use Rattle.decide.specs.declared.Decision.TheVariants.{Replace, TakeOldest, TakeAndRefill, TakeFromSender, CreateMailbox, DeleteMailbox}
use Rattle.decide.specs.declared.Decision.TheVariants.{DeliverMessage, QueueMessage, TakeMessage, Join}

-- ── What it stands for ──

-- A program's state and answer. What calls only read stays.
unfoldable pub ran : Model → Effect → Result Model Answer
ran m p = record { state = record { environment = m.environment; rows = (run same_key p m.rows).state }; answer = (run same_key p m.rows).answer }

-- The wait that a task starts. (`NoWait` is no wait to start: see `MayJoin`.)
abbrev pub joining : Program.Rows Row → ℕ → Wait → Effect
joining m me NoWait = done
joining m me (Sending q end word) = queues.wait_to_send q (m (queue q)) me (m (task me)) word end
joining m me (Receiving q end) = queues.wait_to_receive q (m (queue q)) me (m (task me)) end
joining m me (AtMailbox b end) = mailboxes.wait_for_message b (m (mailbox b)) me (m (task me)) end

abbrev pub after : Model → Decision → Result Model Answer
after m (Refuse code) = ran m (refuse code)
after m (Say code a b c) = ran m (return (finished code a b c))
after m Tick = tick m
after m (DefineTask t priority) = ran m (define t priority)
after m (EndWait t) = ran m (end_wait t E_RLWAI done)
after m (Suspend t suspended) = ran m (set_suspension t suspended)
after m (CreateQueue q attribute capacity) = ran m (queues.create q attribute capacity)
after m (DeleteQueue q) = ran m (queues.delete q (m.rows (queue q)))
after m (Deliver q t word) = ran m (queues.deliver q (m.rows (queue q)) word)
after m (Store q word) = ran m (queues.store q (m.rows (queue q)) word)
after m (Replace q word) = ran m (queues.replace_oldest q (m.rows (queue q)) word)
after m (TakeOldest q) = ran m (queues.take_oldest q (m.rows (queue q)))
after m (TakeAndRefill q t) = ran m (queues.take_oldest_and_refill q (m.rows (queue q)))
after m (TakeFromSender q t) = ran m (queues.take_from_sender q (m.rows (queue q)))
after m (CreateMailbox b attribute highest) = ran m (mailboxes.create b attribute highest)
after m (DeleteMailbox b) = ran m (mailboxes.delete b (m.rows (mailbox b)))
after m (DeliverMessage b t g) = ran m (mailboxes.deliver_message b (m.rows (mailbox b)) g)
after m (QueueMessage b g priority) = ran m (mailboxes.queue_message b (m.rows (mailbox b)) g priority)
after m (TakeMessage b) = ran m (mailboxes.take_message b (m.rows (mailbox b)))
after m (Join me ranked wait) = ran m (joining m.rows me wait)

-- ── What it asks of the rows ──

-- A queue, or a mailbox, that is there, and one that isn't there yet.
pub record QueueThere (m : Model) (q : ℕ) : Type 0 where
  pub valid_queue : T (valid (queue q))
  pub defined : T (m.rows (queue q)).defined

pub record MailboxThere (m : Model) (b : ℕ) : Type 0 where
  pub valid_mailbox : T (valid (mailbox b))
  pub defined : T (m.rows (mailbox b)).defined

pub record NewQueue (m : Model) (q attribute capacity : ℕ) : Type 0 where
  pub valid_queue : T (valid (queue q))
  pub undefined : T (not (m.rows (queue q)).defined)
  pub capacity_in_range : capacity ≤ capacity_limit

-- The highest message priority is kept with attribute 2 or 3 alone, so else it is 0.
pub record NewMailbox (m : Model) (b attribute highest : ℕ) : Type 0 where
  pub valid_mailbox : T (valid (mailbox b))
  pub undefined : T (not (m.rows (mailbox b)).defined)
  pub highest_kept : T (not (messages_by_priority attribute)) → highest ≡ 0

-- A task that can start a wait.
pub record CanWait (m : Model) (me : ℕ) : Type 0 where
  pub valid_task : T (valid (task me))
  pub defined : T (m.rows (task me)).defined
  pub able : (m.rows (task me)).wait ≡ NoWait

-- It joins senders and waiters by task priority where their attribute says so, and receivers always behind all.
abbrev pub MayJoin : Model → Bool → Wait → Type 0
MayJoin m ranked NoWait = ⊥
MayJoin m ranked (Sending q end word) = QueueThere m q × (ranked ≡ senders_by_priority (m.rows (queue q)).attribute)
MayJoin m ranked (Receiving q end) = QueueThere m q × (ranked ≡ false)
MayJoin m ranked (AtMailbox b end) = MailboxThere m b × (ranked ≡ waiters_by_priority (m.rows (mailbox b)).attribute)

-- The message is free. By priority, its priority is no larger than the mailbox's highest.
pub record Queueable (m : Model) (b g priority : ℕ) : Type 0 where
  pub there : MailboxThere m b
  pub valid_message : T (valid (message g))
  pub is_free : T ((m.rows (message g)).queued_in == 0)
  pub in_range : T (messages_by_priority (m.rows (mailbox b)).attribute) → priority ≤ (m.rows (mailbox b)).highest

abbrev pub Ready : Model → Decision → Type 0
Ready m (Refuse code) = Unit
Ready m (Say code a b c) = Unit
Ready m Tick = Unit
Ready m (DefineTask t priority) = T (valid (task t))
Ready m (EndWait t) = T (valid (task t)) × T (not (able (m.rows (task t)).wait))
Ready m (Suspend t suspended) = T (valid (task t))
Ready m (CreateQueue q attribute capacity) = NewQueue m q attribute capacity
Ready m (DeleteQueue q) = QueueThere m q
Ready m (Deliver q t word) = QueueThere m q × T (not (empty (m.rows (queue q)).receivers)) × (t ≡ head_d (m.rows (queue q)).receivers 0)
Ready m (Store q word) = QueueThere m q × T (has_room (m.rows (queue q)))
Ready m (Replace q word) = QueueThere m q × T (not (empty (m.rows (queue q)).words))
Ready m (TakeOldest q) = QueueThere m q × T (not (empty (m.rows (queue q)).words))
Ready m (TakeAndRefill q t) =
    QueueThere m q × T (not (empty (m.rows (queue q)).words)) × T (not (empty (m.rows (queue q)).senders)) × (t ≡ head_d (m.rows (queue q)).senders 0)
Ready m (TakeFromSender q t) = QueueThere m q × T (not (empty (m.rows (queue q)).senders)) × (t ≡ head_d (m.rows (queue q)).senders 0)
Ready m (CreateMailbox b attribute highest) = NewMailbox m b attribute highest
Ready m (DeleteMailbox b) = MailboxThere m b
Ready m (DeliverMessage b t g) = MailboxThere m b × T (not (empty (m.rows (mailbox b)).waiters)) × (t ≡ head_d (m.rows (mailbox b)).waiters 0)
Ready m (QueueMessage b g priority) = Queueable m b g priority
Ready m (TakeMessage b) = MailboxThere m b × T (not (empty (m.rows (mailbox b)).messages))
Ready m (Join me ranked wait) = CanWait m me × MayJoin m ranked wait

-- ── What `decide` promises ──

-- A call that no row of the error table refuses, and what is seen for it.
pub record Taken (m : Model) (c : Call) (y : Seen) : Type 0 where
  pub seen : SeenFor m c y
  pub accepted : T (not (refused (view_of m c) c))

-- Whatever the state: the definition's step is what the decision stands for, its rows are as it asks, and where the table refuses the call it is refused.
pub record Decided (m : Model) (c : Call) (d : Decision) : Type 0 where
  pub steps : step m c ≡ after m d
  pub ready : Ready m d
  pub refuses : T (not (is_tick c)) → T (refused (view_of m c) c) → d ≡ Refuse (refusal (view_of m c) c)
