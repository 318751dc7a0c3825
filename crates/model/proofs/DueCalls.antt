-- What each accepted call leaves of the row of a task: as it was, or ended with what is due, or, for one task, a wait that begins or a new row. By number, a line
-- for each call.
use mathlib.Core.Path.{◌≡◌, refl, sym, ◌∙◌, ap, ap₂, subst}
use mathlib.Core.Bool.{Bool, true, false, not, ◌&&◌, ◌||◌, cond}
use mathlib.Core.List.{List, head_d}
use mathlib.Core.Option.{Option, none, some}
use Prim.Native.Nat.{ℕ, ◌≤◌}
use native.Mathlib.Omega.{arith}
use lib.Dec.{nltb→le, T, T_not, eqb, eqb→eq, eqb_refl}
use lib.ListN.{length}
use borrow.Author.Tests.{eq-eqb, ne_eqb}
use mir.Facts.{T_not-not, and_yes}
use Rattle.lists.specs.Lists.{empty, one_of}
use Rattle.lists.proofs.Positions.{EachNumbered, ◌then◌, at_number}
use Rattle.rows.specs.Program as Program
use Rattle.rows.specs.Program.{update}
use Rattle.model.specs.Sizes.{call_limit}
use Rattle.model.specs.Rows.{task, message, same_key, Row, TaskRow, QueueRow, MailboxRow, Environment, Effect, Model, has_room}
use Rattle.model.specs.Codes.{Code, E_OK, E_RLWAI, E_DLT, waits, finished}
use Rattle.model.specs.Calls.{Call, View, task_priority_of, view_of, task_only}
use Rattle.model.specs.Waits.{Wait, NoWait, Sending, Receiving, AtMailbox, End, starting, ended}
use Rattle.model.specs.Errors.{unknown, exists, missing}
use Rattle.model.specs.WaitQueues.{release}
use Rattle.model.specs.DataQueues.{deliver, store, replace_oldest, wait_to_send, send, take_oldest, take_oldest_and_refill, take_from_sender, wait_to_receive, receive, cre_dtq, del_dtq, snd_dtq, psnd_dtq, tsnd_dtq, fsnd_dtq, rcv_dtq, prcv_dtq, trcv_dtq, ref_dtq}
use Rattle.model.specs.Mailboxes.{deliver_message, queue_message, take_message, wait_for_message, send_message, receive_message, cre_mbx, del_mbx, snd_mbx, rcv_mbx, prcv_mbx, trcv_mbx, ref_mbx}
use Rattle.model.specs.Tasks.{define_task, rel_wai, sus_tsk, rsm_tsk, look, fetch}
use Rattle.model.specs.Step.{effects, effect, no_call}
use Rattle.model.specs.Answers.{is_wait}
use Rattle.model.specs.Endings.{CodeAndWord, is_head, causes, first_cause, begun_wait}
use Rattle.model.specs.declared.Answer.{Answer}
use Rattle.model.proofs.Tests.{neither_left}
use Rattle.model.proofs.Standing.{task_cases}
use Rattle.model.proofs.Step.{numbered}
use Rattle.model.proofs.Accepted.{Passes, Accepted}
use Rattle.model.proofs.Checked.{exists_not, caller_able}
use Rattle.model.proofs.After.{After, after_return, after_get, after_put, after_if, after_get_each, after_free_messages}
use Rattle.model.proofs.KeptCalls.{Valid}
use Rattle.model.proofs.TaskRows.{ended_in, after_end_wait_tasks, after_end_waits_tasks}
use Rattle.model.proofs.Shown.{shown_caller, shown_task}

-- ── A row before and after ──

-- The row as what is due leaves it.
abbrev pub as_due : Option CodeAndWord → TaskRow → TaskRow
as_due none x = x
as_due (some e) x = ended e.code e.word x

pub record Begins (w : Wait) (x y : TaskRow) : Type 0 where
  pub able_before : x.wait ≡ NoWait
  pub started : y ≡ starting w x

pub record Defines (c : Call) (x y : TaskRow) : Type 0 where
  pub undefined : T (not x.defined)
  pub new : y ≡ record { defined = true; priority = task_priority_of c; wait = NoWait; code = E_OK; word = 0 }

-- What the call c, answered a, leaves of the row of t; w is the wait that it may begin.
pub record Turn (c : Call) (w : Wait) (t : ℕ) (given : Option CodeAndWord) (x y : TaskRow) (a : Answer) : Type 0 where
  pub begins : T (is_wait a.outcome && eqb t c.caller) → Begins w x y
  pub defines : T (eqb c.number 1 && eqb t c.object) → Defines c x y
  pub else_due : T (not (is_wait a.outcome && eqb t c.caller)) → T (not (eqb c.number 1 && eqb t c.object)) → y ≡ as_due given x

-- ── Heads of wait queues ──

second : (a b : Bool) → T a → (a && b) ≡ b
second true b t = refl
second false b t = absurd t

not_head : {X : Type 0} (a b : Bool) (x y : X) → T a → cond (not a && b) x y ≡ y
not_head true b x y t = refl
not_head false b x y t = absurd t

-- Where no task stands, none stands at the head.
none_at_head : (t : ℕ) (l : List ℕ) (e : CodeAndWord) → T (empty l) → cond (is_head t l) (some e) none ≡ none
unfolding is_head
none_at_head t l e h = not_head (empty l) (eqb t (head_d l 0)) (some e) none h

module _ (m : Program.Rows Row) (t : ℕ) (e : CodeAndWord) where
  -- The wait of one task ends.
  one_ended : (h : ℕ) → update same_key (task h) (ended e.code e.word (m (task h))) m (task t) ≡ as_due (cond (eqb t h) (some e) none) (m (task t))
  one_ended h = task_cases h m (λ j y. y ≡ as_due (cond (eqb j h) (some e) none) (m (task j))) _ (rw (eq-eqb h h refl)) t (λ n. rw (ne_eqb t h n))

  -- The wait of the head ends.
  head_ended : (l : List ℕ) → T (not (empty l))
      → update same_key (task (head_d l 0)) (ended e.code e.word (m (task (head_d l 0)))) m (task t) ≡ as_due (cond (is_head t l) (some e) none) (m (task t))
  unfolding is_head
  head_ended l some_task = one_ended (head_d l 0) ∙ ap (λ b. as_due (cond b (some e) none) (m (task t))) (sym (second (not (empty l)) (eqb t (head_d l 0)) some_task))

-- ── Programs of a call that isn't call 1 ──

module _ (c : Call) (no_define : T (not (eqb c.number 1))) (m : Program.Rows Row) (w : Wait) (t : ℕ) where
  not_1 : {X : Type 0} (b : Bool) → T (eqb c.number 1 && b) → X
  not_1 b h = absurd (T_not (eqb c.number 1) no_define (and_yes (eqb c.number 1) b h).0)

  abbrev Leaves : Option CodeAndWord → Effect → Program.Rows Row → Type 0
  Leaves given p n = After (λ o a. Turn c w t given (m (task t)) (o (task t)) a) p n

  -- The call has its answer at once.
  at_once : {given : Option CodeAndWord} {y : TaskRow} {code : Code} {i j k : ℕ} → y ≡ as_due given (m (task t)) → Turn c w t given (m (task t)) y (finished code i j k)
  at_once e = record { begins = λ h. absurd h; defines = not_1 (eqb t c.object); else_due = λ h k. e }

  -- Nothing is due, and no task's row is changed.
  untouched : {code : Code} {i j k : ℕ} → Turn c w t none (m (task t)) (m (task t)) (finished code i j k)
  untouched = at_once refl

  -- Nothing is due because nobody stands there.
  none_due : (l : List ℕ) (e : CodeAndWord) (p : Effect) (n : Program.Rows Row) → T (empty l) → Leaves none p n → Leaves (cond (is_head t l) (some e) none) p n
  none_due l e p n h = subst (λ given. Leaves given p n) (sym (none_at_head t l e h))

  -- The caller's wait begins.
  wait_turn : (wait : Wait) (row : TaskRow) (place : ℕ) → wait ≡ w → row ≡ m (task c.caller) → row.wait ≡ NoWait
      → Turn c w t none (m (task t)) (update same_key (task c.caller) (starting wait row) m (task t)) (waits place)
  wait_turn wait row place that own able_row = task_cases c.caller m (λ j y. Turn c w j none (m (task j)) y (waits place)) (starting wait row)
      (record {
        begins = λ h. record { able_before = subst (λ (x : TaskRow). x.wait ≡ NoWait) own able_row; started = ap₂ starting that own };
        defines = not_1 (eqb c.caller c.object);
        else_due = λ h k. absurd (T_not (eqb c.caller c.caller) h (eqb_refl c.caller));
      }) t
      (λ n. record { begins = λ h. absurd (n (eqb→eq t c.caller h)); defines = not_1 (eqb t c.object); else_due = λ h k. refl })

  module _ (q : ℕ) (x : QueueRow) where
    leaves_send : (word : ℕ) (otherwise : Effect) → (T (empty x.receivers) → T (not (has_room x)) → Leaves none otherwise m)
        → Leaves (cond (is_head t x.receivers) (some (record { code = E_OK; word = word })) none) (send q x word otherwise) m
    unfolding send deliver release store same_key update
    leaves_send word otherwise h =
        after_if (λ some_receiver. after_put (after_get (after_put (after_return (at_once (head_ended m t _ x.receivers some_receiver))))))
        (λ none. let no_receiver = T_not-not (empty x.receivers) none in
        none_due x.receivers _ _ m no_receiver (after_if (λ room. after_put (after_return untouched)) (h no_receiver)))

    leaves_receive : (otherwise : Effect) → Leaves none otherwise m → Leaves (cond (is_head t x.senders) (some (record { code = E_OK; word = 0 })) none) (receive q x otherwise) m
    unfolding receive take_oldest take_oldest_and_refill take_from_sender same_key update
    leaves_receive otherwise h =
        after_if (λ words. after_if
        (λ no_sender. none_due x.senders _ _ m no_sender (after_put (after_return untouched)))
        (λ some_sender. after_get (after_put (after_put (after_return (at_once (head_ended m t _ x.senders some_sender)))))))
        (λ no_word. after_if
        (λ some_sender. after_get (after_put (after_put (after_return (at_once (head_ended m t _ x.senders some_sender))))))
        (λ none. none_due x.senders _ _ m (T_not-not (empty x.senders) none) h))

    module _ (row : TaskRow) (own : row ≡ m (task c.caller)) (able_row : row.wait ≡ NoWait) (end : End) where
      leaves_wait_to_send : (word : ℕ) → Sending q end word ≡ w → Leaves none (wait_to_send q x c.caller row word end) m
      unfolding wait_to_send same_key update
      leaves_wait_to_send word that = after_get_each task _ _ _ (after_put (after_put (after_return (wait_turn (Sending q end word) row _ that own able_row))))

      leaves_wait_to_receive : Receiving q end ≡ w → Leaves none (wait_to_receive q x c.caller row end) m
      unfolding wait_to_receive same_key update
      leaves_wait_to_receive that = after_put (after_put (after_return (wait_turn (Receiving q end) row _ that own able_row)))

  module _ (b : ℕ) (x : MailboxRow) where
    leaves_send_message : (g priority : ℕ) → Leaves (cond (is_head t x.waiters) (some (record { code = E_OK; word = g })) none) (send_message b x g priority) m
    unfolding send_message deliver_message release queue_message same_key update
    leaves_send_message g priority =
        after_if (λ some_waiter. after_put (after_get (after_put (after_return (at_once (head_ended m t _ x.waiters some_waiter))))))
        (λ none. none_due x.waiters _ _ m (T_not-not (empty x.waiters) none) (after_get_each message _ _ _ (after_put (after_put (after_return untouched)))))

    leaves_receive_message : (otherwise : Effect) → Leaves none otherwise m → Leaves none (receive_message b x otherwise) m
    unfolding receive_message take_message same_key update
    leaves_receive_message otherwise h = after_if (λ some. after_put (after_put (after_return untouched))) (λ none. h)

    leaves_wait_for_message : (row : TaskRow) → row ≡ m (task c.caller) → row.wait ≡ NoWait → (end : End) → AtMailbox b end ≡ w → Leaves none (wait_for_message b x c.caller row end) m
    unfolding wait_for_message same_key update
    leaves_wait_for_message row own able_row end that = after_get_each task _ _ _ (after_put (after_put (after_return (wait_turn (AtMailbox b end) row _ that own able_row))))

-- ── Every call, by number ──

-- Two wait queues ended one after the other.
ended_twice : (a b : Bool) (x : TaskRow) → cond b (ended E_DLT 0 (cond a (ended E_DLT 0 x) x)) (cond a (ended E_DLT 0 x) x) ≡ as_due (cond (a || b) (some (record { code = E_DLT; word = 0 })) none) x
ended_twice true true x = refl
ended_twice true false x = refl
ended_twice false true x = refl
ended_twice false false x = refl

pub ended_if : (b : Bool) (e : CodeAndWord) (x : TaskRow) → cond b (ended e.code e.word x) x ≡ as_due (cond b (some e) none) x
ended_if true e x = refl
ended_if false e x = refl

module _ (m : Model) (c : Call) (t : ℕ) where
  abbrev v : ℕ → View
  v n = view_of m (numbered n c)

  abbrev w : ℕ → Wait
  w n = begun_wait m (numbered n c)

  -- Call n has the effect f, and that leaves of t's row what is due, if the call is accepted.
  abbrev LeftFor : ℕ → (Environment → View → Call → Effect) → Type 0
  LeftFor n f = Accepted Valid (numbered n c) → Passes (v n) (numbered n c)
      → After (λ o a. Turn (numbered n c) (w n) t (first_cause (causes m (numbered n c) t)) (m.rows (task t)) (o (task t)) a) (f m.environment (v n) (numbered n c)) m.rows

  for : (n : ℕ) (f : Environment → View → Call → Effect) → LeftFor n f → LeftFor n f
  for n f h = h

  -- The caller's row is in view.
  own : (n : ℕ) → Accepted Valid (numbered n c) → T (task_only (numbered n c)) → (v n).caller.row ≡ m.rows (task c.caller)
  own n a h = shown_caller m (numbered n c) (a.caller_in h)

  -- The task named is defined, if it wasn't.
  define_turn : T (not (m.rows (task c.object)).defined) → Turn (numbered 1 c) (w 1) t none (m.rows (task t))
      (update same_key (task c.object) (record { defined = true; priority = task_priority_of c; wait = NoWait; code = E_OK; word = 0 }) m.rows (task t)) (finished E_OK 0 0 0)
  define_turn undefined = task_cases c.object m.rows (λ j y. Turn (numbered 1 c) (w 1) j none (m.rows (task j)) y (finished E_OK 0 0 0)) _
      (record {
        begins = λ h. absurd h;
        defines = λ h. record { undefined = undefined; new = refl };
        else_due = λ h k. absurd (T_not (eqb c.object c.object) k (eqb_refl c.object));
      }) t
      (λ n. record { begins = λ h. absurd h; defines = λ h. absurd (n (eqb→eq t c.object h)); else_due = λ h k. refl })

  left_effects : EachNumbered LeftFor effects
  unfolding EachNumbered effects one_of exists missing causes first_cause replace_oldest same_key update
  left_effects =
      for 0 no_call (λ a p. absurd p.step_5)
      then for 1 define_task (λ a p. let undefined : T (not (v 1).the_task.defined) = search (exists_not p tt, neither_left) in
      after_put (after_put (after_return (define_turn (subst (λ (x : TaskRow). T (not x.defined)) (shown_task m (numbered 1 c) tt (a.task_in tt)) undefined)))))
      then for 2 cre_dtq (λ a p. after_put (after_return (untouched (numbered 2 c) tt m.rows (w 2) t)))
      then for 3 del_dtq (λ a p. after_end_waits_tasks _ _ _ _ λ n ends. after_end_waits_tasks _ _ _ n λ o ends'. after_put (after_return (at_once (numbered 3 c) tt m.rows (w 3) t
      (ends' t ∙ (ap (ended_in (v 3).the_queue.receivers E_DLT t) (ends t) ∙ ended_twice (one_of t (v 3).the_queue.senders) (one_of t (v 3).the_queue.receivers) (m.rows (task t)))))))
      then for 4 snd_dtq (λ a p. leaves_send (numbered 4 c) tt m.rows (w 4) t _ _ _ _ (λ r f. leaves_wait_to_send (numbered 4 c) tt m.rows (w 4) t _ _ _ (own 4 a tt) (caller_able p tt) _ _ refl))
      then for 5 psnd_dtq (λ a p. leaves_send (numbered 5 c) tt m.rows (w 5) t _ _ _ _ (λ r f. after_return (untouched (numbered 5 c) tt m.rows (w 5) t)))
      then for 6 tsnd_dtq (λ a p. leaves_send (numbered 6 c) tt m.rows (w 6) t _ _ _ _ (λ r f. leaves_wait_to_send (numbered 6 c) tt m.rows (w 6) t _ _ _ (own 6 a tt) (caller_able p tt) _ _ refl))
      then for 7 fsnd_dtq (λ a p. leaves_send (numbered 7 c) tt m.rows (w 7) t _ _ _ _ (λ r f. after_put (after_return (untouched (numbered 7 c) tt m.rows (w 7) t))))
      then for 8 rcv_dtq (λ a p. leaves_receive (numbered 8 c) tt m.rows (w 8) t _ _ _ (leaves_wait_to_receive (numbered 8 c) tt m.rows (w 8) t _ _ _ (own 8 a tt) (caller_able p tt) _ refl))
      then for 9 prcv_dtq (λ a p. leaves_receive (numbered 9 c) tt m.rows (w 9) t _ _ _ (after_return (untouched (numbered 9 c) tt m.rows (w 9) t)))
      then for 10 trcv_dtq (λ a p. leaves_receive (numbered 10 c) tt m.rows (w 10) t _ _ _ (leaves_wait_to_receive (numbered 10 c) tt m.rows (w 10) t _ _ _ (own 10 a tt) (caller_able p tt) _ refl))
      then for 11 ref_dtq (λ a p. after_return (untouched (numbered 11 c) tt m.rows (w 11) t))
      then for 12 cre_mbx (λ a p. after_put (after_return (untouched (numbered 12 c) tt m.rows (w 12) t)))
      then for 13 del_mbx (λ a p. after_end_waits_tasks _ _ _ _ λ n ends. after_free_messages _ _ n (after_put (after_return (at_once (numbered 13 c) tt m.rows (w 13) t
      (ends t ∙ ended_if (one_of t (v 13).the_mailbox.waiters) (record { code = E_DLT; word = 0 }) (m.rows (task t)))))))
      then for 14 snd_mbx (λ a p. leaves_send_message (numbered 14 c) tt m.rows (w 14) t _ _ _ _)
      then for 15 rcv_mbx (λ a p. leaves_receive_message (numbered 15 c) tt m.rows (w 15) t _ _ _ (leaves_wait_for_message (numbered 15 c) tt m.rows (w 15) t _ _ _ (own 15 a tt) (caller_able p tt) _ refl))
      then for 16 prcv_mbx (λ a p. leaves_receive_message (numbered 16 c) tt m.rows (w 16) t _ _ _ (after_return (untouched (numbered 16 c) tt m.rows (w 16) t)))
      then for 17 trcv_mbx (λ a p. leaves_receive_message (numbered 17 c) tt m.rows (w 17) t _ _ _ (leaves_wait_for_message (numbered 17 c) tt m.rows (w 17) t _ _ _ (own 17 a tt) (caller_able p tt) _ refl))
      then for 18 ref_mbx (λ a p. after_return (untouched (numbered 18 c) tt m.rows (w 18) t))
      then for 19 rel_wai (λ a p. after_end_wait_tasks _ _ _ _ λ n ends. after_return (at_once (numbered 19 c) tt m.rows (w 19) t (ends t ∙ one_ended m.rows t (record { code = E_RLWAI; word = 0 }) c.object)))
      then for 20 sus_tsk (λ a p. after_put (after_return (untouched (numbered 20 c) tt m.rows (w 20) t)))
      then for 21 rsm_tsk (λ a p. after_put (after_return (untouched (numbered 21 c) tt m.rows (w 21) t)))
      then for 22 look (λ a p. after_return (untouched (numbered 22 c) tt m.rows (w 22) t))
      then for 23 fetch (λ a p. after_return (untouched (numbered 23 c) tt m.rows (w 23) t))
      then tt

  -- Beyond the table a number is unknown.
  beyond : (n : ℕ) → length effects ≤ n → LeftFor n no_call
  unfolding effects unknown
  beyond n h a p = let known = nltb→le call_limit n p.step_0 in absurd (omega arith)

  pub left_effect : LeftFor c.number effect
  unfolding effect
  left_effect = at_number LeftFor no_call effects beyond left_effects c.number
