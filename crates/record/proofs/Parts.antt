-- A record is sound exactly when its chains are and each task, data queue and mailbox is by itself: what a test can look at one after the other.
use mathlib.Core.Path.{◌≡◌, refl, sym, ap, ◌∙◌, subst}
use mathlib.Core.Bool.{not}
use mathlib.Core.List.{map}
use Prim.Native.Nat.{ℕ, ◌<◌}
use lib.Dec.{T, T_not}
use lib.ListN.{get_or}
use Rattle.lists.specs.Lists.{one_of, InOrder, StandsWhereNamed}
use Rattle.chain.specs.Table.{chain_of, keys_of}
use Rattle.chain.specs.Table as chain
use Rattle.model.specs.Sizes.{task_limit, message_limit, priority_limit, counter_span}
use Rattle.model.specs.Rows.{task, suspension, queue, mailbox, message, valid, TaskRow, QueueRow, MailboxRow, messages_by_priority, waiters_by_priority, senders_by_priority, nothing}
use Rattle.model.specs.WellFormed.{EndAhead, TaskWellFormed, QueueWellFormed, MailboxWellFormed, WellFormedRows}
use Rattle.model.specs.Waits.{wait_end, WaitQueue, object_of, senders_of, receivers_of, waiters_of, wait_queue}
use Rattle.model.specs.WaitQueues.{standing_in, by_priority}
use Rattle.model.proofs.Choices.{cond_yes}
use Rattle.model.proofs.WellFormed.{empty_well_formed}
use Rattle.parts.specs.Chains.{task_chains, message_chains, tasks_in}
use Rattle.parts.specs.Tasks.{TaskSound, WaitSound}
use Rattle.parts.specs.Queues.{QueueSound}
use Rattle.parts.specs.Mailboxes.{kept_attribute, MailboxSound}
use Rattle.record.specs.declared.State.{State}
use Rattle.record.specs.Meaning.{task_at, queue_at, mailbox_at, abs}
use Rattle.record.specs.Sound.{Sizes, Sound}
use Rattle.record.proofs.Rows.{row_is, row_cases}
use Rattle.record.proofs.Standing.{task_lists, waiting_from, stands_from, queued_from}
use Rattle.record.proofs.Keys.{priorities_are, kept_priorities_are}

-- Each part by itself.
abbrev pub TaskAt : State → ℕ → Type 0
TaskAt s t = TaskSound s.counter (get_or s.waiting.key t 0) (chain_of t (task_lists s)) (task_at s t)

abbrev pub QueueAt : State → ℕ → Type 0
QueueAt s q = QueueSound (queue_at s q) s.waiting.link s.waiting.key q

abbrev pub MailboxAt : State → ℕ → Type 0
MailboxAt s b = MailboxSound (mailbox_at s b) s.waiting.link s.waiting.key s.messages.link s.messages.key b

pub record Parts (s : State) : Type 0 where
  pub sizes : Sizes s
  pub counter : s.counter < counter_span
  pub waiting : chain.Sound task_limit task_chains s.waiting.link
  pub messages : chain.Sound message_limit message_chains s.messages.link
  pub tasks : (t : ℕ) → T (valid (task t)) → TaskAt s t
  pub queues : (q : ℕ) → T (valid (queue q)) → QueueAt s q
  pub mailboxes : (b : ℕ) → T (valid (mailbox b)) → MailboxAt s b

-- A mailbox by priority keeps its highest priority.
highest_is : (s : State) (b : ℕ) → T (valid (mailbox b)) → T (messages_by_priority (kept_attribute (mailbox_at s b))) → ((abs s).rows (mailbox b)).highest ≡ (mailbox_at s b).highest
highest_is s b v o = ap (λ (x : MailboxRow). x.highest) (row_is s (mailbox b) v) ∙ cond_yes (messages_by_priority (kept_attribute (mailbox_at s b))) _ _ o

-- ── From the parts ──

module _ (s : State) (p : Parts s) where
  -- What is undefined is well-formed, as in the empty state.
  undefined : WellFormedRows nothing
  undefined = (empty_well_formed s.counter p.counter).rows

  rows_tasks : (t : ℕ) → TaskWellFormed ((abs s).rows (task t))
  rows_tasks t = row_cases s (task t) (λ x. TaskWellFormed x) (λ v. (p.tasks t v).row) (λ n. undefined.tasks t)

  waits : (t : ℕ) → T (valid (task t)) → WaitSound s.counter (chain_of t (task_lists s)) (task_at s t).wait
  waits t v = record { stands = (p.tasks t v).stands; object_in_range = (p.tasks t v).row.object_in_range; end = (p.tasks t v).end }

  stand : StandsWhereNamed (standing_in (abs s).rows) (λ t. wait_queue ((abs s).rows (task t)).wait)
  stand = waiting_from s p.waiting waits

  in_queue_order : (k : WaitQueue) → T (valid (object_of k)) → InOrder 1 priority_limit (keys_of s.waiting.key (tasks_in s.waiting.link k))
      → InOrder 1 priority_limit (map (λ t. ((abs s).rows (task t)).priority) (standing_in (abs s).rows k))
  in_queue_order k v o = subst (λ l. InOrder 1 priority_limit l) (sym (priorities_are s p.waiting rows_tasks stand k v)) o

  waiting_ordered : (k : WaitQueue) → T (by_priority (abs s).rows k) → InOrder 1 priority_limit (map (λ t. ((abs s).rows (task t)).priority) (standing_in (abs s).rows k))
  unfolding one_of
  waiting_ordered (senders_of q) o =
      let v = row_cases s (queue q) (λ x. T (senders_by_priority x.attribute) → T (valid (queue q))) (λ v h. v) (λ n h. absurd h) o in
      in_queue_order (senders_of q) v ((p.queues q v).senders_in_order (subst (λ (x : QueueRow). T (senders_by_priority x.attribute)) (row_is s (queue q) v) o))
  waiting_ordered (receivers_of q) o = absurd o
  waiting_ordered (waiters_of b) o =
      let v = row_cases s (mailbox b) (λ x. T (waiters_by_priority x.attribute) → T (valid (mailbox b))) (λ v h. v) (λ n h. absurd h) o in
      in_queue_order (waiters_of b) v ((p.mailboxes b v).waiters_in_order (subst (λ (x : MailboxRow). T (waiters_by_priority x.attribute)) (row_is s (mailbox b) v) o))

  queued_ordered : (b : ℕ) → T (messages_by_priority ((abs s).rows (mailbox b)).attribute) → InOrder 1 ((abs s).rows (mailbox b)).highest (map (λ g. ((abs s).rows (message g)).priority) ((abs s).rows (mailbox b)).messages)
  unfolding one_of
  queued_ordered b o =
      let v = row_cases s (mailbox b) (λ x. T (messages_by_priority x.attribute) → T (valid (mailbox b))) (λ v h. v) (λ n h. absurd h) o in
      let by_priority = subst (λ (x : MailboxRow). T (messages_by_priority x.attribute)) (row_is s (mailbox b) v) o in
      rw (highest_is s b v by_priority, kept_priorities_are s p.messages b v by_priority) ((p.mailboxes b v).messages_in_order by_priority)

  suspended_defined : (t : ℕ) → T ((abs s).rows (suspension t)) → T ((abs s).rows (task t)).defined
  suspended_defined t h =
      let v = row_cases s (suspension t) (λ x. T x → T (valid (task t))) (λ v g. v) (λ n g. absurd g) h in
      subst T (sym (ap (λ (x : TaskRow). x.defined) (row_is s (task t) v))) ((p.tasks t v).suspension (subst T (row_is s (suspension t) v) h))

  pub parts_sound : Sound s
  unfolding abs
  parts_sound = record {
    readable = record { sizes = p.sizes; waiting = p.waiting; messages = p.messages; queues = λ q v. (p.queues q v).readable; mailboxes = λ b v. (p.mailboxes b v).flag };
    well_formed = record {
      counter_in_range = p.counter;
      rows = record {
        in_range = λ k. row_cases s k (λ x. T (not (valid k)) → x ≡ nothing k) (λ v n. absurd (T_not (valid k) n v)) (λ n m. refl);
        tasks = rows_tasks;
        suspensions = suspended_defined;
        queues = λ q. row_cases s (queue q) QueueWellFormed (λ v. (p.queues q v).row) (λ n. undefined.queues q);
        mailboxes = λ b. row_cases s (mailbox b) MailboxWellFormed (λ v. (p.mailboxes b v).row) (λ n. undefined.mailboxes b);
        waiting = stand;
        waiting_in_order = waiting_ordered;
        queued = queued_from s p.messages;
        queued_in_order = queued_ordered;
      };
      ends = λ t. row_cases s (task t) (λ x. EndAhead s.counter (wait_end x.wait)) (λ v. (p.tasks t v).end) (λ n. tt);
    };
  }

-- ── To the parts ──

module _ (s : State) (S : Sound s) where
  well_formed_rows : WellFormedRows (abs s).rows
  unfolding abs
  well_formed_rows = S.well_formed.rows

  ends_ahead : (t : ℕ) → EndAhead s.counter (wait_end ((abs s).rows (task t)).wait)
  unfolding abs
  ends_ahead = S.well_formed.ends

  sound_task : (t : ℕ) → T (valid (task t)) → TaskAt s t
  sound_task t v = record {
    stands = stands_from s S.readable.waiting well_formed_rows.waiting t v;
    suspension = λ h. subst (λ (x : TaskRow). T x.defined) (row_is s (task t) v) (well_formed_rows.suspensions t (subst T (sym (row_is s (suspension t) v)) h));
    row = subst (λ x. TaskWellFormed x) (row_is s (task t) v) (well_formed_rows.tasks t);
    end = subst (λ (x : TaskRow). EndAhead s.counter (wait_end x.wait)) (row_is s (task t) v) (ends_ahead t);
  }

  keys_ordered : (k : WaitQueue) → T (valid (object_of k)) → T (by_priority (abs s).rows k) → InOrder 1 priority_limit (keys_of s.waiting.key (tasks_in s.waiting.link k))
  keys_ordered k v o = subst (λ l. InOrder 1 priority_limit l) (priorities_are s S.readable.waiting well_formed_rows.tasks well_formed_rows.waiting k v) (well_formed_rows.waiting_in_order k o)

  sound_queue : (q : ℕ) → T (valid (queue q)) → QueueAt s q
  sound_queue q v = record {
    readable = S.readable.queues q v;
    row = subst QueueWellFormed (row_is s (queue q) v) (well_formed_rows.queues q);
    senders_in_order = λ o. keys_ordered (senders_of q) v (subst (λ (x : QueueRow). T (senders_by_priority x.attribute)) (sym (row_is s (queue q) v)) o);
  }

  sound_mailbox : (b : ℕ) → T (valid (mailbox b)) → MailboxAt s b
  sound_mailbox b v = record {
    flag = S.readable.mailboxes b v;
    row = subst MailboxWellFormed (row_is s (mailbox b) v) (well_formed_rows.mailboxes b);
    waiters_in_order = λ o. keys_ordered (waiters_of b) v (subst (λ (x : MailboxRow). T (waiters_by_priority x.attribute)) (sym (row_is s (mailbox b) v)) o);
    messages_in_order = λ o. rw (highest_is s b v o, kept_priorities_are s S.readable.messages b v o)
        at (well_formed_rows.queued_in_order b (subst (λ (x : MailboxRow). T (messages_by_priority x.attribute)) (sym (row_is s (mailbox b) v)) o));
  }

  pub sound_parts : Parts s
  unfolding abs
  sound_parts = record {
    sizes = S.readable.sizes;
    counter = S.well_formed.counter_in_range;
    waiting = S.readable.waiting;
    messages = S.readable.messages;
    tasks = sound_task;
    queues = sound_queue;
    mailboxes = sound_mailbox;
  }
