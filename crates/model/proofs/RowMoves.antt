-- A row put with the wait queues as they were, and a mailbox's row put with its messages', keep the rows well-formed: sentence by sentence, what isn't touched
-- being read by computing.
use mathlib.Core.Path.{◌≡◌, refl, sym, ◌∙◌, ap, subst, subst₂, fun_ext}
use mathlib.Core.Bool.{Bool, not, cond}
use mathlib.Core.List.{List, map, Memᴰ as In}
use mathlib.Core.Logic.{◌≢◌}
use mathlib.Core.Option.{none-ne-some}
use Prim.Native.Nat.{ℕ}
use lib.Dec.{T}
use Rattle.lists.specs.Lists.{one_of, InOrder, StandsWhereNamed}
use Rattle.lists.proofs.Members.{map_same}
use Rattle.rows.specs.Program as Program
use Rattle.rows.specs.Program.{update}
use Rattle.model.specs.Sizes.{priority_limit}
use Rattle.model.specs.Rows.{Key, task, suspension, queue, mailbox, message, same_key, valid, Row, TaskRow, QueueRow, MailboxRow, MessageRow, senders_by_priority, waiters_by_priority, messages_by_priority, free, nothing}
use Rattle.model.specs.Waits.{NoWait, WaitQueue, senders_of, receivers_of, waiters_of, wait_queue}
use Rattle.model.specs.WellFormed.{named_mailbox, TaskWellFormed, QueueWellFormed, MailboxWellFormed, WellFormedRows}
use Rattle.model.specs.WaitQueues.{standing_in, by_priority}
use Rattle.model.proofs.Standing.{task_cases, suspension_cases, queue_cases, mailbox_cases, put_in_range}

-- The rows with these messages.
abbrev pub with_message_rows : (ℕ → MessageRow) → Program.Rows Row → Program.Rows Row
with_message_rows messages m (task t) = m (task t)
with_message_rows messages m (suspension t) = m (suspension t)
with_message_rows messages m (queue q) = m (queue q)
with_message_rows messages m (mailbox b) = m (mailbox b)
with_message_rows messages m (message g) = messages g

-- The messages' rows when these are free.
abbrev pub freed : List ℕ → Program.Rows Row → ℕ → MessageRow
freed l m g = cond (one_of g l) free (m (message g))

-- The rows' own messages change nothing.
pub own_messages : (m : Program.Rows Row) → with_message_rows (λ g. m (message g)) m ≡ m
own_messages m = fun_ext same
  where
    same : (k : Key) → with_message_rows (λ g. m (message g)) m k ≡ m k
    same (task t) = refl
    same (suspension t) = refl
    same (queue q) = refl
    same (mailbox b) = refl
    same (message g) = refl

-- Rows with the same objects have the same wait queues, in the same order.
module _ (m n : Program.Rows Row) (queues : (q : ℕ) → m (queue q) ≡ n (queue q)) (mailboxes : (b : ℕ) → m (mailbox b) ≡ n (mailbox b)) where
  same_standing : (d : WaitQueue) → standing_in m d ≡ standing_in n d
  same_standing (senders_of q) = ap (λ (x : QueueRow). x.senders) (queues q)
  same_standing (receivers_of q) = ap (λ (x : QueueRow). x.receivers) (queues q)
  same_standing (waiters_of b) = ap (λ (x : MailboxRow). x.waiters) (mailboxes b)

  same_order : (f : ℕ → ℕ) → ((d : WaitQueue) → T (by_priority m d) → InOrder 1 priority_limit (map f (standing_in m d)))
      → (d : WaitQueue) → T (by_priority n d) → InOrder 1 priority_limit (map f (standing_in n d))
  same_order f order (senders_of q) = subst (λ (x : QueueRow). T (senders_by_priority x.attribute) → InOrder 1 priority_limit (map f x.senders)) (queues q) (order (senders_of q))
  same_order f order (receivers_of q) = λ p. absurd p
  same_order f order (waiters_of b) = subst (λ (x : MailboxRow). T (waiters_by_priority x.attribute) → InOrder 1 priority_limit (map f x.waiters)) (mailboxes b) (order (waiters_of b))

-- The waiting tasks stand where they did.
waiting_kept : (m n : Program.Rows Row) → ((d : WaitQueue) → standing_in m d ≡ standing_in n d) → ((t : ℕ) → wait_queue (m (task t)).wait ≡ wait_queue (n (task t)).wait)
    → StandsWhereNamed (standing_in m) (λ t. wait_queue (m (task t)).wait) → StandsWhereNamed (standing_in n) (λ t. wait_queue (n (task t)).wait)
waiting_kept m n lists waits = subst₂ StandsWhereNamed (fun_ext lists) (fun_ext waits)

module _ {m : Program.Rows Row} (w : WellFormedRows m) where
  -- A queue's row, with the wait queues as they were.
  pub put_queue : (q : ℕ) (v : QueueRow) → T (valid (queue q)) → QueueWellFormed v → v.senders ≡ (m (queue q)).senders → v.receivers ≡ (m (queue q)).receivers
      → (T (senders_by_priority v.attribute) → InOrder 1 priority_limit (map (λ j. (m (task j)).priority) v.senders))
      → WellFormedRows (update same_key (queue q) v m)
  unfolding same_key update
  put_queue q v valid_queue fits same_senders same_receivers order = record {
    in_range = put_in_range w.in_range (queue q) v valid_queue;
    tasks = w.tasks;
    suspensions = w.suspensions;
    queues = λ j. queue_cases q m (λ i x. QueueWellFormed x) v fits j (λ n. w.queues j);
    mailboxes = w.mailboxes;
    waiting = waiting_kept m (update same_key (queue q) v m) same (λ t. refl) w.waiting;
    waiting_in_order = in_order;
    queued = w.queued;
    queued_in_order = w.queued_in_order;
  }
    where
      same : (d : WaitQueue) → standing_in m d ≡ standing_in (update same_key (queue q) v m) d
      same (senders_of j) = queue_cases q m (λ i x. (m (queue i)).senders ≡ x.senders) v (sym same_senders) j (λ n. refl)
      same (receivers_of j) = queue_cases q m (λ i x. (m (queue i)).receivers ≡ x.receivers) v (sym same_receivers) j (λ n. refl)
      same (waiters_of b) = refl

      in_order : (d : WaitQueue) → T (by_priority (update same_key (queue q) v m) d) → InOrder 1 priority_limit (map (λ j. (m (task j)).priority) (standing_in (update same_key (queue q) v m) d))
      in_order (senders_of j) = queue_cases q m (λ i x. T (senders_by_priority x.attribute) → InOrder 1 priority_limit (map (λ j. (m (task j)).priority) x.senders))
          v order j (λ n. w.waiting_in_order (senders_of j))
      in_order (receivers_of j) = λ n. absurd n
      in_order (waiters_of b) = w.waiting_in_order (waiters_of b)

  -- A task's row, with no wait before and after. Its priority may change: it stands nowhere.
  pub put_task : (t : ℕ) (v : TaskRow) → T (valid (task t)) → TaskWellFormed v → T v.defined → v.wait ≡ NoWait → (m (task t)).wait ≡ NoWait
      → WellFormedRows (update same_key (task t) v m)
  unfolding same_key update
  put_task t v valid_task fits defined after before = record {
    in_range = put_in_range w.in_range (task t) v valid_task;
    tasks = λ j. task_cases t m (λ i x. TaskWellFormed x) v fits j (λ n. w.tasks j);
    suspensions = λ j. task_cases t m (λ i x. T (m (suspension i)) → T x.defined) v (λ s. defined) j (λ n. w.suspensions j);
    queues = w.queues;
    mailboxes = w.mailboxes;
    waiting = waiting_kept m n (same_standing m n (λ q. refl) (λ b. refl))
        (λ j. task_cases t m (λ i x. wait_queue (m (task i)).wait ≡ wait_queue x.wait) v (ap wait_queue (before ∙ sym after)) j (λ n. refl)) w.waiting;
    waiting_in_order = same_order m n (λ q. refl) (λ b. refl) (λ j. (n (task j)).priority) in_order;
    queued = w.queued;
    queued_in_order = w.queued_in_order;
  }
    where
      n : Program.Rows Row
      n = update same_key (task t) v m

      priority : (d : WaitQueue) (j : ℕ) → In j (standing_in m d) → (n (task j)).priority ≡ (m (task j)).priority
      priority d j = task_cases t m (λ i x. In i (standing_in m d) → x.priority ≡ (m (task i)).priority) v
          (λ i. absurd (none-ne-some d (ap wait_queue (sym before) ∙ w.waiting.no_other t d i))) j (λ n i. refl)

      in_order : (d : WaitQueue) → T (by_priority m d) → InOrder 1 priority_limit (map (λ j. (n (task j)).priority) (standing_in m d))
      in_order d p = rw (map_same (λ j. (n (task j)).priority) (λ j. (m (task j)).priority) (standing_in m d) (priority d)) (w.waiting_in_order d p)

  -- A suspension of a defined task, or none.
  pub put_suspension : (t : ℕ) (v : Bool) → T (valid (suspension t)) → (T v → T (m (task t)).defined) → WellFormedRows (update same_key (suspension t) v m)
  unfolding same_key update
  put_suspension t v valid_task defined = record {
    in_range = put_in_range w.in_range (suspension t) v valid_task;
    tasks = w.tasks;
    suspensions = λ j. suspension_cases t m (λ i s. T s → T (m (task i)).defined) v defined j (λ n. w.suspensions j);
    queues = w.queues;
    mailboxes = w.mailboxes;
    waiting = waiting_kept m n (same_standing m n (λ q. refl) (λ b. refl)) (λ j. refl) w.waiting;
    waiting_in_order = same_order m n (λ q. refl) (λ b. refl) (λ j. (m (task j)).priority) w.waiting_in_order;
    queued = w.queued;
    queued_in_order = w.queued_in_order;
  }
    where
      n : Program.Rows Row
      n = update same_key (suspension t) v m

  -- A mailbox's row, with its waiters as they were, and all messages' rows. The messages of the other mailboxes keep their priorities.
  pub put_mailbox : (b : ℕ) (v : MailboxRow) (messages : ℕ → MessageRow) → T (valid (mailbox b)) → MailboxWellFormed v → v.waiters ≡ (m (mailbox b)).waiters
      → (T (waiters_by_priority v.attribute) → InOrder 1 priority_limit (map (λ j. (m (task j)).priority) v.waiters))
      → ((g : ℕ) → T (not (valid (message g))) → messages g ≡ free)
      → StandsWhereNamed (λ j. (update same_key (mailbox b) v m (mailbox j)).messages) (λ g. named_mailbox (messages g))
      → (T (messages_by_priority v.attribute) → InOrder 1 v.highest (map (λ g. (messages g).priority) v.messages))
      → ((j g : ℕ) → j ≢ b → In g (m (mailbox j)).messages → (m (message g)).priority ≡ (messages g).priority)
      → WellFormedRows (update same_key (mailbox b) v (with_message_rows messages m))
  unfolding same_key update
  put_mailbox b v messages valid_mailbox fits same_waiters order in_range stands message_order same_priorities = record {
    in_range = put_in_range messages_in_range (mailbox b) v valid_mailbox;
    tasks = w.tasks;
    suspensions = w.suspensions;
    queues = w.queues;
    mailboxes = λ j. mailbox_cases b m (λ i x. MailboxWellFormed x) v fits j (λ n. w.mailboxes j);
    waiting = waiting_kept m (update same_key (mailbox b) v (with_message_rows messages m)) same (λ t. refl) w.waiting;
    waiting_in_order = in_order;
    queued = stands;
    queued_in_order = λ j. mailbox_cases b m (λ i x. T (messages_by_priority x.attribute) → InOrder 1 x.highest (map (λ g. (messages g).priority) x.messages)) v message_order j
        (λ n p. rw (map_same (λ g. (messages g).priority) (λ g. (m (message g)).priority) (m (mailbox j)).messages (λ g i. sym (same_priorities j g n i))) (w.queued_in_order j p));
  }
    where
      messages_in_range : (k : Key) → T (not (valid k)) → with_message_rows messages m k ≡ nothing k
      messages_in_range (task t) = w.in_range (task t)
      messages_in_range (suspension t) = w.in_range (suspension t)
      messages_in_range (queue q) = w.in_range (queue q)
      messages_in_range (mailbox j) = w.in_range (mailbox j)
      messages_in_range (message g) = in_range g

      same : (d : WaitQueue) → standing_in m d ≡ standing_in (update same_key (mailbox b) v (with_message_rows messages m)) d
      same (senders_of q) = refl
      same (receivers_of q) = refl
      same (waiters_of j) = mailbox_cases b m (λ i x. (m (mailbox i)).waiters ≡ x.waiters) v (sym same_waiters) j (λ n. refl)

      in_order : (d : WaitQueue) → T (by_priority (update same_key (mailbox b) v (with_message_rows messages m)) d)
          → InOrder 1 priority_limit (map (λ j. (m (task j)).priority) (standing_in (update same_key (mailbox b) v (with_message_rows messages m)) d))
      in_order (senders_of q) = w.waiting_in_order (senders_of q)
      in_order (receivers_of q) = w.waiting_in_order (receivers_of q)
      in_order (waiters_of j) = mailbox_cases b m (λ i x. T (waiters_by_priority x.attribute) → InOrder 1 priority_limit (map (λ j. (m (task j)).priority) x.waiters))
          v order j (λ n. w.waiting_in_order (waiters_of j))
