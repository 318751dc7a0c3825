-- A task that leaves a wait queue or joins one, with its wait changed alike, keeps the rows well-formed: one lemma for both, over the wait queues as lists.
use mathlib.Core.Path.{◌≡◌, refl, sym, ◌∙◌, ap, subst, fun_ext}
use mathlib.Core.Bool.{Bool, true, false, not}
use mathlib.Core.List.{List, [], map, tail, head_d}
use mathlib.Core.Logic.{◌≢◌}
use mathlib.Core.Option
use mathlib.Core.Option.{Option, some, none-ne-some}
use Prim.Native.Nat.{ℕ, ◌≤◌}
use lib.Dec.{T, T_not}
use Rattle.lists.specs.Lists.{empty, insert_at, ahead, without, passed, InOrder, StandsWhereNamed}
use Rattle.lists.specs.Options.{IfSome}
use Rattle.lists.proofs.Changes.{map_insert, map_remove}
use Rattle.lists.proofs.Order.{in_order_insert, in_order_remove}
use Rattle.lists.proofs.Stands.{in_head, without_head, without_none, not_empty_before, stands_leave, stands_join}
use Rattle.rows.specs.Program as Program
use Rattle.rows.specs.Program.{update}
use Rattle.rows.proofs.Update.{update_same, update_other, update_cases}
use Rattle.model.specs.Sizes.{priority_limit}
use Rattle.model.specs.Rows.{Key, task, suspension, queue, mailbox, message, same_key, valid, Row, TaskRow, nothing, with_senders, with_receivers, with_waiters}
use Rattle.model.specs.Codes.{Code}
use Rattle.model.specs.Waits.{Wait, NoWait, starting, ended, WaitQueue, senders_of, receivers_of, waiters_of, object_of, wait_queue}
use Rattle.model.specs.WellFormed.{ObjectInRange, ends_a_wait, TaskWellFormed, QueueWellFormed, MailboxWellFormed, WellFormedRows}
use Rattle.model.specs.WaitQueues.{standing_in, by_priority, set_standing}
use Rattle.model.proofs.Standing.{same_queue, changed, task_cases, put_in_range, with_standing, set_standing_is}

-- The object is well-formed with this list as the wait queue.
abbrev pub ObjectWellFormed : Program.Rows Row → WaitQueue → List ℕ → Type 0
ObjectWellFormed m (senders_of q) l = QueueWellFormed (with_senders l (m (queue q)))
ObjectWellFormed m (receivers_of q) l = QueueWellFormed (with_receivers l (m (queue q)))
ObjectWellFormed m (waiters_of b) l = MailboxWellFormed (with_waiters l (m (mailbox b)))

-- ── A wait queue and a task's row change ──

-- List l for wait queue c and this row for task t.
module _ (m : Program.Rows Row) (c : WaitQueue) (l : List ℕ) (t : ℕ) (row : TaskRow) where
  abbrev pub lists : WaitQueue → List ℕ
  lists = changed same_queue c l (standing_in m)

  abbrev pub moved : Program.Rows Row
  moved = update same_key (task t) row (with_standing lists m)

  pub standing_moved : (d : WaitQueue) → standing_in moved d ≡ lists d
  unfolding same_key update
  standing_moved (senders_of q) = refl
  standing_moved (receivers_of q) = refl
  standing_moved (waiters_of b) = refl

  own_wait : wait_queue (moved (task t)).wait ≡ wait_queue row.wait
  own_wait = ap (λ (x : TaskRow). wait_queue x.wait) (update_same same_key (task t) row (with_standing lists m))

  other_waits : (j : ℕ) → j ≢ t → wait_queue (moved (task j)).wait ≡ wait_queue (m (task j)).wait
  other_waits j n = ap (λ (x : TaskRow). wait_queue x.wait) (update_other same_key (task t) row (with_standing lists m) (task j) (λ e. n (cc)))

  -- The task keeps its priority, so that only the changed list can be out of order.
  module _ (w : WellFormedRows m) (valid_object : T (valid (object_of c))) (valid_task : T (valid (task t)))
      (fits : ObjectWellFormed m c l) (task_fits : TaskWellFormed row)
      (same_defined : row.defined ≡ (m (task t)).defined) (same_priority : row.priority ≡ (m (task t)).priority)
      (order : T (by_priority m c) → InOrder 1 priority_limit (map (λ j. (m (task j)).priority) l)) where
    as_before : (d : WaitQueue) → T (not (valid (object_of d))) → lists d ≡ standing_in m d
    as_before d n = update_other same_queue c l (standing_in m) d (λ e. T_not (valid (object_of d)) n (rw e valid_object))

    lists_in_range : (k : Key) → T (not (valid k)) → with_standing lists m k ≡ nothing k
    lists_in_range (task j) n = w.in_range (task j) n
    lists_in_range (suspension j) n = w.in_range (suspension j) n
    lists_in_range (queue q) n = rw (as_before (receivers_of q) n, as_before (senders_of q) n) (w.in_range (queue q) n)
    lists_in_range (mailbox b) n = rw (as_before (waiters_of b) n) (w.in_range (mailbox b) n)
    lists_in_range (message g) n = w.in_range (message g) n

    queues : (c : WaitQueue) → ((d : WaitQueue) → ObjectWellFormed m d (changed same_queue c l (standing_in m) d))
        → (q : ℕ) → QueueWellFormed (with_standing (changed same_queue c l (standing_in m)) m (queue q))
    unfolding same_queue update
    queues (senders_of p) h q = h (senders_of q)
    queues (receivers_of p) h q = h (receivers_of q)
    queues (waiters_of b) h q = h (senders_of q)

    objects : (d : WaitQueue) → ObjectWellFormed m d (lists d)
    objects d = update_cases same_queue (ObjectWellFormed m) c l (standing_in m) fits d (λ n. own d)
      where
        own : (d : WaitQueue) → ObjectWellFormed m d (standing_in m d)
        own (senders_of q) = w.queues q
        own (receivers_of q) = w.queues q
        own (waiters_of b) = w.mailboxes b

    in_order : (k : WaitQueue) → T (by_priority m k) → InOrder 1 priority_limit (map (λ j. (moved (task j)).priority) (lists k))
    unfolding same_key update
    in_order k = subst (λ (f : ℕ → ℕ). T (by_priority m k) → InOrder 1 priority_limit (map f (lists k))) (fun_ext same)
        (update_cases same_queue (λ d r. T (by_priority m d) → InOrder 1 priority_limit (map (λ j. (m (task j)).priority) r)) c l (standing_in m) order k (λ n. w.waiting_in_order k))
      where
        same : (j : ℕ) → (m (task j)).priority ≡ (moved (task j)).priority
        same j = task_cases t (with_standing lists m) (λ i x. (m (task i)).priority ≡ x.priority) row (sym same_priority) j (λ n. refl)

    wait_moved : StandsWhereNamed lists (λ j. wait_queue (moved (task j)).wait) → WellFormedRows moved
    unfolding same_key update
    wait_moved stands = record {
      in_range = put_in_range lists_in_range (task t) row valid_task;
      tasks = λ j. task_cases t (with_standing lists m) (λ i x. TaskWellFormed x) row task_fits j (λ n. w.tasks j);
      suspensions = λ j. task_cases t (with_standing lists m) (λ i x. T (m (suspension i)) → T x.defined) row (λ h. rw same_defined (w.suspensions t h)) j (λ n. w.suspensions j);
      queues = queues c objects;
      mailboxes = λ b. objects (waiters_of b);
      waiting = subst (λ (f : WaitQueue → List ℕ). StandsWhereNamed f (λ j. wait_queue (moved (task j)).wait)) (fun_ext (λ d. sym (standing_moved d))) stands;
      waiting_in_order = order_read;
      queued = w.queued;
      queued_in_order = w.queued_in_order;
    }
      where
        order_read : (k : WaitQueue) → T (by_priority moved k) → InOrder 1 priority_limit (map (λ j. (moved (task j)).priority) (standing_in moved k))
        order_read (senders_of q) = in_order (senders_of q)
        order_read (receivers_of q) = in_order (receivers_of q)
        order_read (waiters_of b) = in_order (waiters_of b)

-- ── A task leaves, or joins ──

-- The object of the wait queue that a wait names is the wait's.
named_object : (x : Wait) (c : WaitQueue) → wait_queue x ≡ some c → ObjectInRange x ≡ T (valid (object_of c))
named_object x c e = ap (λ (y : Option WaitQueue). IfSome (λ k. T (valid k)) (Option.map object_of y)) e

-- Priorities stay in order.
module _ (f : ℕ → ℕ) {most : ℕ} (t : ℕ) (l : List ℕ) where
  pub in_order_without : InOrder 1 most (map f l) → InOrder 1 most (map f (without t l))
  unfolding without
  in_order_without o = rw (map_remove f (ahead t l) l) (in_order_remove (ahead t l) o)

  pub in_order_with : (n : ℕ) → n ≡ passed (f t) (map f l) → 1 ≤ f t → f t ≤ most → InOrder 1 most (map f l) → InOrder 1 most (map f (insert_at n t l))
  in_order_with n e low high o = rw (map_insert f n t l, e) (in_order_insert (f t) low high o)

-- What is defined is valid.
module _ {m : Program.Rows Row} (w : WellFormedRows m) where
  pub is_valid : (k : Key) → (m k ≡ nothing k → ⊥) → T (valid k)
  is_valid k f = go (valid k) (w.in_range k)
    where
      go : (b : Bool) → (T (not b) → m k ≡ nothing k) → T b
      go true h = tt
      go false h = absurd (f (h tt))

  pub defined_task : (t : ℕ) → T (m (task t)).defined → T (valid (task t))
  defined_task t d = is_valid (task t) (λ e. rw e at d)

  pub defined_queue : (q : ℕ) → T (m (queue q)).defined → T (valid (queue q))
  defined_queue q d = is_valid (queue q) (λ e. rw e at d)

  pub defined_mailbox : (b : ℕ) → T (m (mailbox b)).defined → T (valid (mailbox b))
  defined_mailbox b d = is_valid (mailbox b) (λ e. rw e at d)

  -- With a list that is empty where the wait queue was, an object is well-formed still.
  fewer : (d : WaitQueue) (l : List ℕ) → (standing_in m d ≡ [] → l ≡ []) → ObjectWellFormed m d l
  fewer (senders_of q) l h = let x = w.queues q in record {
    undefined = λ n. ((x.undefined n).0, h (x.undefined n).1, (x.undefined n).2);
    attribute_in_range = x.attribute_in_range;
    capacity_in_range = x.capacity_in_range;
    count = x.count;
    senders = λ s. x.senders (not_empty_before (m (queue q)).senders l h s);
    receivers = λ r. ((x.receivers r).0, h (x.receivers r).1);
  }
  fewer (receivers_of q) l h = let x = w.queues q in record {
    undefined = λ n. ((x.undefined n).0, (x.undefined n).1, h (x.undefined n).2);
    attribute_in_range = x.attribute_in_range;
    capacity_in_range = x.capacity_in_range;
    count = x.count;
    senders = λ s. ((x.senders s).0, h (x.senders s).1);
    receivers = λ r. x.receivers (not_empty_before (m (queue q)).receivers l h r);
  }
  fewer (waiters_of b) l h = let x = w.mailboxes b in record {
    undefined = λ n. (h (x.undefined n).0, (x.undefined n).1);
    attribute_in_range = x.attribute_in_range;
    highest_in_range = x.highest_in_range;
    waiters = λ s. x.waiters (not_empty_before (m (mailbox b)).waiters l h s);
  }

  module _ (t : ℕ) (c : WaitQueue) where
    -- The wait of t, which names c, ends.
    pub leave : (code : Code) (word : ℕ) → T (ends_a_wait code) → wait_queue (m (task t)).wait ≡ some c
        → WellFormedRows (update same_key (task t) (ended code word (m (task t))) (set_standing c (without t (standing_in m c)) m))
    leave code word ends e =
        let l = without t (standing_in m c) in
        let row = ended code word (m (task t)) in
        rw (set_standing_is c l m)
        (wait_moved m c l t row w (rw (named_object (m (task t)).wait c e) at (w.tasks t).object_in_range) (is_valid (task t) (λ q. none-ne-some c (rw q at e)))
        (fewer c l (λ q. ap (without t) q ∙ without_none t))
        (record { undefined = λ d. refl; priority_in_range = (w.tasks t).priority_in_range; object_in_range = tt; code = ends }) refl refl
        (λ b. in_order_without (λ j. (m (task j)).priority) t (standing_in m c) (w.waiting_in_order c b))
        (stands_leave same_queue w.waiting c (update_other same_queue c l (standing_in m)) t (other_waits m c l t row) e (own_wait m c l t row) (update_same same_queue c l (standing_in m))))

    -- t, which is defined and has no wait, starts a wait that names c, behind the first n tasks there.
    pub join : (n : ℕ) (wait : Wait) → T (m (task t)).defined → (m (task t)).wait ≡ NoWait → T (valid (object_of c)) → ObjectWellFormed m c (insert_at n t (standing_in m c))
        → wait_queue wait ≡ some c
        → (T (by_priority m c) → n ≡ passed (m (task t)).priority (map (λ j. (m (task j)).priority) (standing_in m c)))
        → WellFormedRows (update same_key (task t) (starting wait (m (task t))) (set_standing c (insert_at n t (standing_in m c)) m))
    join n wait defined able object fits e place =
        let l = insert_at n t (standing_in m c) in
        let row = starting wait (m (task t)) in
        let priority = (w.tasks t).priority_in_range defined in
        rw (set_standing_is c l m)
        (wait_moved m c l t row w object (defined_task t defined) fits
        (record {
          undefined = λ d. absurd (T_not (m (task t)).defined d defined);
          priority_in_range = (w.tasks t).priority_in_range;
          object_in_range = rw (named_object wait c e) object;
          code = tt;
        }) refl refl
        (λ b. in_order_with (λ j. (m (task j)).priority) t (standing_in m c) n (place b) priority.0 priority.1 (w.waiting_in_order c b))
        (stands_join same_queue w.waiting c (update_other same_queue c l (standing_in m)) t (other_waits m c l t row) (ap wait_queue able) (own_wait m c l t row ∙ e) n (update_same same_queue c l (standing_in m))))

  -- The wait of the head ends.
  pub leave_head : (c : WaitQueue) (code : Code) (word : ℕ) → T (ends_a_wait code) → T (not (empty (standing_in m c)))
      → WellFormedRows (update same_key (task (head_d (standing_in m c) 0)) (ended code word (m (task (head_d (standing_in m c) 0)))) (set_standing c (tail (standing_in m c)) m))
  leave_head c code word ends some_task = rw (without_head (standing_in m c) some_task) at
      (leave (head_d (standing_in m c) 0) c code word ends (w.waiting.no_other (head_d (standing_in m c) 0) c (in_head (standing_in m c) some_task)))
