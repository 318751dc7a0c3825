-- Every accepted call keeps the rows well-formed: by number, a line for each call.
use mathlib.Core.Path.{◌≡◌, refl, sym, subst}
use mathlib.Core.Bool.{Bool, true, false, not, cond}
use Prim.Native.Nat.{ℕ, ◌≤◌}
use native.Mathlib.Omega.{arith}
use lib.Dec.{T, nltb→le}
use lib.ListN.{length}
use Rattle.lists.specs.Lists.{empty, one_of}
use Rattle.lists.proofs.Positions.{EachNumbered, ◌then◌, at_number}
use Rattle.rows.specs.Program as Program
use Rattle.model.specs.Sizes.{call_limit}
use Rattle.model.specs.Rows.{Key, task, queue, mailbox, message, valid, Row, Environment, Effect, Model, no_task, no_queue, no_mailbox, free, has_room}
use Rattle.model.specs.Codes.{E_RLWAI}
use Rattle.model.specs.Calls.{Call, View, word_of, names_task, names_queue, names_mailbox, names_message, message_of, view_of, task_only}
use Rattle.model.specs.Waits.{End, Never}
use Rattle.model.specs.Errors.{unknown, exists, missing}
use Rattle.model.specs.DataQueues.{wait_to_send, send, wait_to_receive, receive, cre_dtq, del_dtq, snd_dtq, psnd_dtq, tsnd_dtq, fsnd_dtq, rcv_dtq, prcv_dtq, trcv_dtq, ref_dtq}
use Rattle.model.specs.Mailboxes.{wait_for_message, receive_message, cre_mbx, del_mbx, snd_mbx, rcv_mbx, prcv_mbx, trcv_mbx, ref_mbx}
use Rattle.model.specs.Tasks.{define_task, rel_wai, sus_tsk, rsm_tsk, look, fetch}
use Rattle.model.specs.Step.{effects, effect, no_call}
use Rattle.model.specs.WellFormed.{WellFormedRows}
use Rattle.model.proofs.Tests.{neither_left, only_left}
use Rattle.model.proofs.Choices.{cond_yes}
use Rattle.model.proofs.Step.{rows_seen, view_is, numbered}
use Rattle.model.proofs.Accepted.{Passes, Accepted}
use Rattle.model.proofs.Checked.{queue_attribute, queue_capacity, mailbox_attribute, mailbox_highest, task_priority, exists_not, exists_already, caller_defined, caller_able, message_priority, message_free, task_waits, something_to_drop}
use Rattle.model.proofs.After.{After, after_return, Kept}
use Rattle.model.proofs.KeptQueues.{CanWait, kept_send, kept_replace_oldest, kept_wait_to_send, kept_receive, kept_wait_to_receive, kept_create_queue, kept_delete_queue}
use Rattle.model.proofs.KeptMailboxes.{kept_send_message, kept_receive_message, kept_wait_for_message, kept_create_mailbox, kept_delete_mailbox}
use Rattle.model.proofs.KeptTasks.{kept_define_task, kept_sus_tsk, kept_rsm_tsk, kept_end_wait}

-- ── The view of an accepted call shows the state's own rows ──

abbrev pub Valid : Key → Type 0
Valid k = T (valid k)

-- The view with the rows that the call names taken from the state.
abbrev seen : Program.Rows Row → Call → View → View
seen m c v = record {
  caller = record { row = cond (task_only c) (m (task c.caller)) v.caller.row; suspended = v.caller.suspended };
  the_task = cond (names_task c) (m (task c.object)) v.the_task;
  suspended = v.suspended;
  the_queue = cond (names_queue c) (m (queue c.object)) v.the_queue;
  the_mailbox = cond (names_mailbox c) (m (mailbox c.object)) v.the_mailbox;
  the_message = cond (names_message c) (m (message (message_of c))) v.the_message;
}

-- A row that is named and valid is read.
own_row : {X : Type 0} (ok : ℕ → Bool) (f : ℕ → X) (d : X) (is_named : Bool) (n : ℕ) → (T is_named → T (ok n))
    → cond is_named (f n) (cond (ok (cond is_named n 0)) (f (cond is_named n 0)) d) ≡ cond (ok (cond is_named n 0)) (f (cond is_named n 0)) d
own_row ok f d true n h = sym (cond_yes (ok n) (f n) d (h tt))
own_row ok f d false n h = refl

caller_row : {X : Type 0} (x d : X) (b ok : Bool) → (T b → T ok) → cond b x (cond ok x d) ≡ cond ok x d
caller_row x d true ok h = sym (cond_yes ok x d (h tt))
caller_row x d false ok h = refl

rows_are_seen : (m : Program.Rows Row) (c : Call) → Accepted Valid c → seen m c (rows_seen m c) ≡ rows_seen m c
rows_are_seen m c a = λ i. record {
  caller = record {
    row = caller_row (m (task c.caller)) no_task (task_only c) (valid (task c.caller)) a.caller_in i;
    suspended = (rows_seen m c).caller.suspended;
  };
  the_task = own_row (λ n. valid (task n)) (λ n. m (task n)) no_task (names_task c) c.object a.task_in i;
  suspended = (rows_seen m c).suspended;
  the_queue = own_row (λ n. valid (queue n)) (λ n. m (queue n)) no_queue (names_queue c) c.object a.queue_in i;
  the_mailbox = own_row (λ n. valid (mailbox n)) (λ n. m (mailbox n)) no_mailbox (names_mailbox c) c.object a.mailbox_in i;
  the_message = own_row (λ n. valid (message n)) (λ n. m (message n)) free (names_message c) (message_of c) a.message_in i;
}

view_seen : (m : Model) (c : Call) → Accepted Valid c → seen m.rows c (view_of m c) ≡ view_of m c
view_seen m c a = subst (λ v. seen m.rows c v ≡ v) (sym (view_is m c)) (rows_are_seen m.rows c a)

-- ── Every call, by number ──

module _ (e : Environment) (c : Call) {m : Program.Rows Row} (w : WellFormedRows m) (v : View) where
  abbrev Keeps : Effect → Type 0
  Keeps p = After Kept p m

  -- Call n has the effect f, and that keeps the rows well-formed if the call is accepted.
  abbrev KeptFor : ℕ → (Environment → View → Call → Effect) → Type 0
  KeptFor n f = Accepted Valid (numbered n c) → Passes (seen m (numbered n c) v) (numbered n c) → Keeps (f e (seen m (numbered n c) v) (numbered n c))

  for : (n : ℕ) (f : Environment → View → Call → Effect) → KeptFor n f → KeptFor n f
  for n f h = h

  -- A call of a task alone has a caller that may wait.
  can_wait : (n : ℕ) → Passes (seen m (numbered n c) v) (numbered n c) → T (task_only (numbered n c)) → CanWait m c.caller
  can_wait n p h = let own = cond_yes (task_only (numbered n c)) (m (task c.caller)) v.caller.row h in
      record { defined = rw own at (caller_defined p h); able = rw own at (caller_able p h) }

  -- The calls with and without a tmout differ only in the end of the wait.
  module _ (defined : T (m (queue c.object)).defined) where
    send_kept : (end : End) → (T (empty (m (queue c.object)).receivers) → T (not (has_room (m (queue c.object)))) → CanWait m c.caller)
        → Keeps (send c.object (m (queue c.object)) (word_of c) (wait_to_send c.object (m (queue c.object)) c.caller (m (task c.caller)) (word_of c) end))
    send_kept end can = kept_send w c.object defined (word_of c) _ (λ r f. kept_wait_to_send w c.object defined r f c.caller (word_of c) end (can r f))

    receive_kept : (end : End) → (T (empty (m (queue c.object)).words) → T (empty (m (queue c.object)).senders) → CanWait m c.caller)
        → Keeps (receive c.object (m (queue c.object)) (wait_to_receive c.object (m (queue c.object)) c.caller (m (task c.caller)) end))
    receive_kept end can = kept_receive w c.object defined _ (λ n s. kept_wait_to_receive w c.object defined c.caller end n s (can n s))

  receive_message_kept : T (m (mailbox c.object)).defined → (end : End) → (T (empty (m (mailbox c.object)).messages) → CanWait m c.caller)
      → Keeps (receive_message c.object (m (mailbox c.object)) (wait_for_message c.object (m (mailbox c.object)) c.caller (m (task c.caller)) end))
  receive_message_kept defined end can = kept_receive_message w c.object defined _ (λ n. kept_wait_for_message w c.object defined c.caller end n (can n))

  kept_effects : EachNumbered KeptFor effects
  unfolding EachNumbered effects one_of exists missing
  kept_effects =
      for 0 no_call (λ a p. absurd p.step_5)
      then for 1 define_task (λ a p. kept_define_task w e v c (a.task_in tt) (search (exists_not p tt, neither_left)) (task_priority p tt).0 (task_priority p tt).1)
      then for 2 cre_dtq (λ a p. kept_create_queue w e v c (a.queue_in tt) (search (exists_not p tt, neither_left)) (queue_attribute p tt) (queue_capacity p tt))
      then for 3 del_dtq (λ a p. kept_delete_queue w e (seen m (numbered 3 c) v) c refl (search (exists_already p tt, only_left)))
      then for 4 snd_dtq (λ a p. send_kept (search (exists_already p tt, only_left)) Never (λ r f. can_wait 4 p tt))
      then for 5 psnd_dtq (λ a p. kept_send w c.object (search (exists_already p tt, only_left)) c.value _ (λ r f. after_return w))
      then for 6 tsnd_dtq (λ a p. send_kept (search (exists_already p tt, only_left)) _ (λ r f. can_wait 6 p tt))
      then for 7 fsnd_dtq (λ a p. let d = only_left (m (queue c.object)).defined (exists_already p tt) in
      kept_send w c.object d c.value _ (λ r f. kept_replace_oldest w c.object d r f c.value (something_to_drop p tt r)))
      then for 8 rcv_dtq (λ a p. receive_kept (search (exists_already p tt, only_left)) Never (λ n s. can_wait 8 p tt))
      then for 9 prcv_dtq (λ a p. kept_receive w c.object (search (exists_already p tt, only_left)) _ (λ n s. after_return w))
      then for 10 trcv_dtq (λ a p. receive_kept (search (exists_already p tt, only_left)) _ (λ n s. can_wait 10 p tt))
      then for 11 ref_dtq (λ a p. after_return w)
      then for 12 cre_mbx (λ a p. kept_create_mailbox w e v c (a.mailbox_in tt) (exists_not p tt) (mailbox_attribute p tt) (mailbox_highest p tt))
      then for 13 del_mbx (λ a p. kept_delete_mailbox w e (seen m (numbered 13 c) v) c refl (exists_already p tt))
      then for 14 snd_mbx (λ a p. kept_send_message w c.object (exists_already p tt) c.value c.attribute (a.message_in tt) (message_free p tt) (message_priority p tt))
      then for 15 rcv_mbx (λ a p. receive_message_kept (exists_already p tt) Never (λ n. can_wait 15 p tt))
      then for 16 prcv_mbx (λ a p. kept_receive_message w c.object (exists_already p tt) _ (λ n. after_return w))
      then for 17 trcv_mbx (λ a p. receive_message_kept (exists_already p tt) _ (λ n. can_wait 17 p tt))
      then for 18 ref_mbx (λ a p. after_return w)
      then for 19 rel_wai (λ a p. kept_end_wait w c.object E_RLWAI _ tt (task_waits p tt) (λ n u no_wait. after_return u))
      then for 20 sus_tsk (λ a p. kept_sus_tsk w e v c (a.task_in tt) (search (exists_already p tt, only_left)))
      then for 21 rsm_tsk (λ a p. kept_rsm_tsk w e v c (a.task_in tt))
      then for 22 look (λ a p. after_return w)
      then for 23 fetch (λ a p. after_return w)
      then tt

  -- Beyond the table a number is unknown.
  beyond : (n : ℕ) → length effects ≤ n → KeptFor n no_call
  unfolding effects unknown
  beyond n h a p = let known = nltb→le call_limit n p.step_0 in absurd (omega arith)

  kept_effect : KeptFor c.number effect
  unfolding effect
  kept_effect = at_number KeptFor no_call effects beyond kept_effects c.number

pub kept_accepted : (m : Model) (c : Call) → WellFormedRows m.rows
    → Accepted Valid c → Passes (view_of m c) c → After Kept (effect m.environment (view_of m c) c) m.rows
kept_accepted m c w a p = subst (λ v. Passes v c → After Kept (effect m.environment v c) m.rows) (view_seen m c a) (kept_effect m.environment c w (view_of m c) a) p
