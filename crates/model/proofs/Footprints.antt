-- Each call's program touches only the rows that it names and what stands in them, and an accepted call answers no error: by the rules of footprints, a line
-- for each call.
use mathlib.Core.Path.{◌≡◌, refl, sym, subst}
use mathlib.Core.Bool.{Bool, true, false, not, ◌&&◌, cond}
use mathlib.Core.List.{List, [], ◌∷◌, head_d}
use mathlib.Core.Option.{Option, none as no_queue, some, map}
use Prim.Native.Nat.{ℕ, ◌≤◌}
use native.Mathlib.Omega.{arith}
use lib.Dec.{T, T_not, eqb, nltb→le}
use mir.Facts.{T_not-not, yes_and}
use lib.ListN.{length}
use Rattle.lists.specs.Lists.{Each, none, both, empty, one_of}
use Rattle.lists.specs.Options.{IfSome}
use Rattle.lists.proofs.Each.{each_tail, each_head, each_append, each_insert, each_without}
use Rattle.lists.proofs.Positions.{EachNumbered, ◌then◌, at_number}
use Rattle.rows.specs.Program.{Program, get}
use Rattle.rows.proofs.Footprint.{Within, in_return, in_get, in_put, in_get_each, in_if, within_map, in_run_first}
use Rattle.model.specs.Sizes.{call_limit}
use Rattle.model.specs.Rows.{Key, task, suspension, queue, mailbox, message, valid, Row, TaskRow, QueueRow, MailboxRow, Environment, Effect, has_room, free, nothing}
use Rattle.model.specs.Codes.{Code}
use Rattle.model.specs.Calls.{Call, CallerView, View, read_if_valid, see_caller, see_named, names_task, reads_suspension, task_named, suspension_named, names}
use Rattle.model.specs.Waits.{End, WaitQueue, senders_of, receivers_of, waiters_of, object_of}
use Rattle.model.specs.Errors.{unknown, exists, missing, polls, would_wait, ErrorRow, rows_to_step_4, rows_from_step_5, error_table, some_applies, unless_refused, refused}
use Rattle.model.specs.WaitQueues.{release, leave_queue, end_wait, end_waits}
use Rattle.model.specs.DataQueues.{deliver, store, replace_oldest, wait_to_send, send, take_oldest, take_oldest_and_refill, take_from_sender, wait_to_receive, receive, cre_dtq, del_dtq, snd_dtq, psnd_dtq, tsnd_dtq, fsnd_dtq, rcv_dtq, prcv_dtq, trcv_dtq, ref_dtq}
use Rattle.model.specs.Mailboxes.{free_messages, deliver_message, queue_message, take_message, wait_for_message, send_message, receive_message, cre_mbx, del_mbx, snd_mbx, rcv_mbx, prcv_mbx, trcv_mbx, ref_mbx}
use Rattle.model.specs.Tasks.{define_task, rel_wai, sus_tsk, rsm_tsk, look, fetch}
use Rattle.model.specs.Step.{effects, effect, no_call, program}
use Rattle.model.specs.Refusals.{NoError}
use Rattle.model.specs.Isolation.{WaitsIn, QueuedIn}
use Rattle.model.specs.declared.Answer.{Answer}
use Rattle.model.proofs.Tests.{or_left, neither}
use Rattle.model.proofs.Step.{applies_append, numbered}
use Rattle.model.proofs.Accepted.{reads_named, Passes, passes, Accepted, accepted}

-- These tasks, and these messages, are in S.
abbrev pub Tasks : (Key → Type 0) → List ℕ → Type 0
Tasks S l = Each (λ t. S (task t)) l

abbrev pub Messages : (Key → Type 0) → List ℕ → Type 0
Messages S l = Each (λ g. S (message g)) l

-- What a row names lies in S: the object that a task waits at, what stands in an object, the mailbox of a message.
abbrev pub NamedIn : (Key → Type 0) → (k : Key) → Row k → Type 0
NamedIn S (task n) x = WaitsIn S x.wait
NamedIn S (suspension n) x = Unit
NamedIn S (queue n) x = Tasks S x.senders × Tasks S x.receivers
NamedIn S (mailbox n) x = Tasks S x.waiters × Messages S x.messages
NamedIn S (message n) x = QueuedIn S x.queued_in

-- Call n, unless it is fetch, answers no error.
abbrev pub AnswersNoError : ℕ → Answer → Type 0
AnswersNoError n a = T (not (eqb n 23)) → NoError a.outcome

-- Step 7 has refused a poll that would have to wait.
no_poll_waits : (v : View) (c : Call) → Passes v c → T (polls c) → T (would_wait v c) → ⊥
no_poll_waits v c p t u = T_not (polls c && would_wait v c) p.step_7 (yes_and (polls c) (would_wait v c) t u)

module _ (v : View) (c : Call) where
  psnd_served : Passes v (numbered 5 c) → T (empty v.the_queue.receivers) → T (not (has_room v.the_queue)) → ⊥
  unfolding polls would_wait one_of
  psnd_served p r s = no_poll_waits v (numbered 5 c) p tt (search (or_left, yes_and))

  prcv_served : Passes v (numbered 9 c) → T (empty v.the_queue.words) → T (empty v.the_queue.senders) → ⊥
  unfolding polls would_wait one_of
  prcv_served p r s = no_poll_waits v (numbered 9 c) p tt (search (or_left, yes_and))

  prcv_mbx_served : Passes v (numbered 16 c) → T (empty v.the_mailbox.messages) → ⊥
  unfolding polls would_wait one_of
  prcv_mbx_served p r = no_poll_waits v (numbered 16 c) p tt r

-- n is the call's number.
module _ (S : Key → Type 0) (n : ℕ) where
  abbrev In : Effect → Type 0
  In p = Within NamedIn S (AnswersNoError n) p

  -- ── Reading an object, with what it names as two facts; the head of a queue; a message's mailbox ──

  get_queue : (q : ℕ) (f : QueueRow → Effect) → S (queue q) → ((x : QueueRow) → Tasks S x.senders → Tasks S x.receivers → In (f x)) → In (get (queue q) f)
  get_queue q f s h = in_get NamedIn S (AnswersNoError n) (queue q) f s (λ x r. h x r.0 r.1)

  get_mailbox : (b : ℕ) (f : MailboxRow → Effect) → S (mailbox b) → ((x : MailboxRow) → Tasks S x.waiters → Messages S x.messages → In (f x)) → In (get (mailbox b) f)
  get_mailbox b f s h = in_get NamedIn S (AnswersNoError n) (mailbox b) f s (λ x r. h x r.0 r.1)

  head_task : (l : List ℕ) → Tasks S l → T (not (empty l)) → S (task (head_d l 0))
  head_task l e t = each_head 0 e t

  head_message : (l : List ℕ) → Messages S l → T (not (empty l)) → S (message (head_d l 0))
  head_message l e t = each_head 0 e t

  queued_in : (b : ℕ) → S (mailbox b) → QueuedIn S b
  unfolding QueuedIn
  queued_in b s t = s

  free_in : QueuedIn S 0
  unfolding QueuedIn
  free_in t = absurd t

  ruleset Rules = (in_return, in_if, get_queue, get_mailbox, in_get, in_put, none, both, each_tail, each_append, each_insert, each_without, head_task, head_message, queued_in, free_in)

  -- ── What several calls share ──

  in_release : (t : ℕ) (code : Code) (word : ℕ) (p : Effect) → S (task t) → In p → In (release t code word p)
  unfolding release
  in_release t code word p s h = search Rules

  in_leave_queue : (t : ℕ) (x : Option WaitQueue) (p : Effect) → IfSome S (map object_of x) → In p → In (leave_queue t x p)
  unfolding leave_queue
  in_leave_queue t no_queue p s h = h
  in_leave_queue t (some (senders_of q)) p s h = search Rules
  in_leave_queue t (some (receivers_of q)) p s h = search Rules
  in_leave_queue t (some (waiters_of b)) p s h = search Rules

  in_end_wait : (t : ℕ) (code : Code) (p : Effect) → S (task t) → In p → In (end_wait t code p)
  unfolding end_wait
  in_end_wait t code p s h = search (Rules, in_leave_queue)

  in_end_waits : (l : List ℕ) (code : Code) (p : Effect) → Tasks S l → In p → In (end_waits l code p)
  unfolding end_waits
  in_end_waits [] code p none h = h
  in_end_waits (t ∷ ts) code p (both s e) h = in_end_wait t code _ s (in_end_waits ts code p e h)

  in_free_messages : (l : List ℕ) (p : Effect) → Messages S l → In p → In (free_messages l p)
  unfolding free_messages
  in_free_messages [] p none h = h
  in_free_messages (g ∷ gs) p (both s e) h = in_put NamedIn S (AnswersNoError n) (message g) free _ s free_in (in_free_messages gs p e h)

  ruleset Shared = (Rules, in_get_each, in_release, in_end_wait, in_end_waits, in_free_messages)

  -- ── Data queues ──

  module _ (q : ℕ) (x : QueueRow) (s : S (queue q)) (r : Tasks S x.senders) (r' : Tasks S x.receivers) where
    in_wait_to_send : (me : ℕ) (row : TaskRow) (word : ℕ) (end : End) → S (task me) → In (wait_to_send q x me row word end)
    unfolding wait_to_send
    in_wait_to_send me row word end h = search Shared depth 9

    in_send : (word : ℕ) (otherwise : Effect) → (T (empty x.receivers) → T (not (has_room x)) → In otherwise) → In (send q x word otherwise)
    unfolding send deliver store
    in_send word otherwise h = search (Shared, T_not-not) depth 9

    in_replace_oldest : (word : ℕ) → In (replace_oldest q x word)
    unfolding replace_oldest
    in_replace_oldest word = search Shared depth 9

    in_wait_to_receive : (me : ℕ) (row : TaskRow) (end : End) → S (task me) → In (wait_to_receive q x me row end)
    unfolding wait_to_receive
    in_wait_to_receive me row end h = search Shared depth 9

    in_receive : (otherwise : Effect) → (T (empty x.words) → T (empty x.senders) → In otherwise) → In (receive q x otherwise)
    unfolding receive take_oldest take_oldest_and_refill take_from_sender
    in_receive otherwise h = search (Shared, T_not-not) depth 9

  -- ── Mailboxes ──

  module _ (b : ℕ) (x : MailboxRow) (s : S (mailbox b)) (r : Tasks S x.waiters) (r' : Messages S x.messages) where
    in_send_message : (g priority : ℕ) → S (message g) → In (send_message b x g priority)
    unfolding send_message deliver_message queue_message
    in_send_message g priority h = search Shared depth 9

    in_wait_for_message : (me : ℕ) (row : TaskRow) (end : End) → S (task me) → In (wait_for_message b x me row end)
    unfolding wait_for_message
    in_wait_for_message me row end h = search Shared depth 9

    in_receive_message : (otherwise : Effect) → (T (empty x.messages) → In otherwise) → In (receive_message b x otherwise)
    unfolding receive_message take_message
    in_receive_message otherwise h = search (Shared, T_not-not) depth 9

  ruleset All = (Shared, in_wait_to_send, in_send, in_replace_oldest, in_wait_to_receive, in_receive, in_send_message, in_wait_for_message, in_receive_message)

-- ── Every call, by number ──

module _ (S : Key → Type 0) where
  -- What the rows in view name lies in S.
  pub record ViewWithin (v : View) : Type 0 where
    pub senders : Tasks S v.the_queue.senders
    pub receivers : Tasks S v.the_queue.receivers
    pub waiters : Tasks S v.the_mailbox.waiters
    pub messages : Messages S v.the_mailbox.messages

  -- Call n has the effect f, and that is within S for an accepted call with rows of S in view.
  abbrev InFor : ℕ → (Environment → View → Call → Effect) → Type 0
  InFor n f = (e : Environment) (v : View) (c : Call) → ViewWithin v → Accepted S (numbered n c) → Passes v (numbered n c) → In S n (f e v (numbered n c))

  for : (n : ℕ) (f : Environment → View → Call → Effect) → InFor n f → InFor n f
  for n f h = h

  in_effects : EachNumbered InFor effects
  unfolding EachNumbered effects one_of missing exists
  in_effects =
      for 0 no_call (λ e v c r a p. absurd p.step_5)
      then for 1 define_task (λ e v c r a p. search (All, a.task_in tt, a.suspension_in tt))
      then for 2 cre_dtq (λ e v c r a p. search (All, a.queue_in tt))
      then for 3 del_dtq (λ e v c r a p. search (All, a.queue_in tt, r.senders, r.receivers))
      then for 4 snd_dtq (λ e v c r a p. search (All, a.queue_in tt, a.caller_in tt, r.senders, r.receivers))
      then for 5 psnd_dtq (λ e v c r a p. in_send S 5 _ _ (a.queue_in tt) r.senders r.receivers _ _ (λ t u. absurd (psnd_served v c p t u)))
      then for 6 tsnd_dtq (λ e v c r a p. search (All, a.queue_in tt, a.caller_in tt, r.senders, r.receivers))
      then for 7 fsnd_dtq (λ e v c r a p. search (All, a.queue_in tt, r.senders, r.receivers))
      then for 8 rcv_dtq (λ e v c r a p. search (All, a.queue_in tt, a.caller_in tt, r.senders, r.receivers))
      then for 9 prcv_dtq (λ e v c r a p. in_receive S 9 _ _ (a.queue_in tt) r.senders r.receivers _ (λ t u. absurd (prcv_served v c p t u)))
      then for 10 trcv_dtq (λ e v c r a p. search (All, a.queue_in tt, a.caller_in tt, r.senders, r.receivers))
      then for 11 ref_dtq (λ e v c r a p. search All)
      then for 12 cre_mbx (λ e v c r a p. search (All, a.mailbox_in tt))
      then for 13 del_mbx (λ e v c r a p. search (All, a.mailbox_in tt, r.waiters, r.messages))
      then for 14 snd_mbx (λ e v c r a p. search (All, a.mailbox_in tt, a.message_in tt, r.waiters, r.messages))
      then for 15 rcv_mbx (λ e v c r a p. search (All, a.mailbox_in tt, a.caller_in tt, r.waiters, r.messages))
      then for 16 prcv_mbx (λ e v c r a p. in_receive_message S 16 _ _ (a.mailbox_in tt) r.waiters r.messages _ (λ t. absurd (prcv_mbx_served v c p t)))
      then for 17 trcv_mbx (λ e v c r a p. search (All, a.mailbox_in tt, a.caller_in tt, r.waiters, r.messages))
      then for 18 ref_mbx (λ e v c r a p. search All)
      then for 19 rel_wai (λ e v c r a p. search (All, a.task_in tt))
      then for 20 sus_tsk (λ e v c r a p. search (All, a.suspension_in tt))
      then for 21 rsm_tsk (λ e v c r a p. search (All, a.suspension_in tt))
      then for 22 look (λ e v c r a p. search All)
      then for 23 fetch (λ e v c r a p. in_return NamedIn S (AnswersNoError 23) _ (λ t. absurd t))
      then tt

  -- Beyond the table a number is unknown.
  beyond : (n : ℕ) → length effects ≤ n → InFor n no_call
  unfolding effects unknown
  beyond n h e v c r a p = let known = nltb→le call_limit n p.step_0 in absurd (omega arith)

  pub in_effect : (e : Environment) (v : View) (c : Call) → ViewWithin v → Accepted S c → Passes v c → Within NamedIn S (AnswersNoError c.number) (effect e v c)
  unfolding effect
  in_effect e v c r a p = at_number InFor no_call effects beyond in_effects c.number e v c r a p

  -- ── A whole call ──

  abbrev Any : Answer → Type 0
  Any a = Unit

  -- A row that is read because its number is valid, or shows as undefined.
  in_read_if_valid : {X : Type 0} (P : X → Type 0) (k : Key) (f : Row k → Program Key Row X) → (T (valid k) → S k) → ((x : Row k) → NamedIn S k x → Within NamedIn S P (f x)) → Within NamedIn S P (read_if_valid k f)
  unfolding read_if_valid
  in_read_if_valid P k f own h = in_if NamedIn S P (valid k) (get k f) (f (nothing k)) (λ t. in_get NamedIn S P k f (own t) h) (λ t. h (nothing k) (shut k))
    where
      shut : (k : Key) → NamedIn S k (nothing k)
      shut (task n) = tt
      shut (suspension n) = tt
      shut (queue n) = (none, none)
      shut (mailbox n) = (none, none)
      shut (message n) = free_in S 0

  -- The suspension that is read is that of the task named.
  own_suspension : (c : Call) → (T (valid (suspension (task_named c))) → S (suspension (task_named c))) → T (valid (suspension (suspension_named c))) → S (suspension (suspension_named c))
  own_suspension c = go (reads_suspension c) (names_task c) (reads_named c)
    where
      go : (reads named : Bool) → (T reads → T named) → (T (valid (suspension (cond named c.object 0))) → S (suspension (cond named c.object 0)))
          → T (valid (suspension (cond reads c.object 0))) → S (suspension (cond reads c.object 0))
      go true true both_read own t = own t
      go true false both_read own t = absurd (both_read tt)
      go false named both_read own t = absurd t

  -- The two stages.
  in_see_caller : (e : Environment) (c : Call) → Each (λ k. T (valid k) → S k) (names c) → Within NamedIn S (λ v. Unit) (see_caller e c)
  unfolding see_caller
  in_see_caller e c (both me (both held rest)) = in_read_if_valid _ (task _) _ me λ x r. in_read_if_valid _ (suspension _) _ held λ y s. in_return NamedIn S _ _ tt

  pub record SeenAfter (caller : CallerView) (v : View) : Type 0 where
    pub within : ViewWithin v
    pub caller_is : v.caller ≡ caller

  in_see_named : (e : Environment) (c : Call) (caller : CallerView) → Each (λ k. T (valid k) → S k) (names c) → Within NamedIn S (SeenAfter caller) (see_named e c caller)
  unfolding see_named
  in_see_named e c caller (both me (both held (both t (both u (both q (both b (both g none))))))) =
      in_read_if_valid _ (task _) _ t λ x1 r1. in_read_if_valid _ (suspension _) _ (own_suspension c u) λ x2 r2.
      in_read_if_valid _ (queue _) _ q λ x3 r3. in_read_if_valid _ (mailbox _) _ b λ x4 r4. in_read_if_valid _ (message _) _ g λ x5 r5.
      in_return NamedIn S _ _ (record { within = record { senders = r3.0; receivers = r3.1; waiters = r4.0; messages = r4.1 }; caller_is = refl })

  -- What follows where no row of a list applies.
  in_unless_refused : (rows : List ErrorRow) (p : Effect) → (T (not (some_applies rows)) → Within NamedIn S Any p) → Within NamedIn S Any (unless_refused rows p)
  unfolding unless_refused
  in_unless_refused rows p h = in_if NamedIn S Any (some_applies rows) _ p (λ t. in_return NamedIn S Any _ tt) h

  -- A call that passes both lists of rows is accepted.
  not_refused : (v : View) (c : Call) → T (not (some_applies (rows_to_step_4 v.caller c))) → T (not (some_applies (rows_from_step_5 v c))) → T (not (refused v c))
  unfolding refused error_table
  not_refused v c t u = rw (applies_append (rows_to_step_4 v.caller c) (rows_from_step_5 v c)) (neither (some_applies (rows_to_step_4 v.caller c)) _ t u)

  pub in_program : (e : Environment) (c : Call) → Each (λ k. T (valid k) → S k) (names c) → Within NamedIn S Any (program e c)
  unfolding program
  in_program e c own =
      in_run_first NamedIn S _ Any (see_caller e c) _ (in_see_caller e c own) λ caller _.
      in_unless_refused (rows_to_step_4 caller c) _ λ t.
      in_run_first NamedIn S (SeenAfter caller) Any (see_named e c caller) _ (in_see_named e c caller own) λ v shown.
      in_unless_refused (rows_from_step_5 v c) _ λ u.
      let ok = not_refused v c (subst (λ x. T (not (some_applies (rows_to_step_4 x c)))) (sym shown.caller_is) t) u in
      within_map NamedIn S (AnswersNoError c.number) Any (λ a h. tt) _ (in_effect e v c shown.within (accepted S v c own ok) (passes v c ok))
