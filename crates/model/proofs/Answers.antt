-- Every answer that an accepted call can give, by number, a line for each call; from that, which answers are "waits", and which places they give.
use mathlib.Core.Path.{◌≡◌, refl, sym, ◌∙◌, ap, subst}
use mathlib.Core.Bool.{Bool, true, false, not, ◌&&◌, ◌||◌, cond, and-true, false≢true}
use mathlib.Core.List.Memᴰ
use mathlib.Core.List.{List, [], ◌∷◌, map, Memᴰ as In}
use mathlib.Core.Logic.{⊎_elim}
use mathlib.Core.Option.{none, some, none-ne-some}
use Prim.Native.Nat.{ℕ, suc, zero-le, ◌≤◌, ◌<◌}
use native.Mathlib.Omega.{arith}
use native.Mathlib.Nat.{le_refl}
use lib.Dec.{nltb→le, T, T_not, eqb, ltb, eqb→eq}
use lib.ListN.{length, length-map}
use mir.Facts.{T_not-not, yes_and}
use Rattle.lists.specs.Lists.{empty, one_of, Once, once}
use Rattle.lists.proofs.Each.{each_of_all}
use Rattle.lists.proofs.Once.{bounded}
use Rattle.lists.proofs.Places.{passed_within}
use Rattle.lists.proofs.Positions.{EachNumbered, ◌then◌, at_number}
use Rattle.rows.specs.Program as Program
use Rattle.rows.specs.Program.{step_of}
use Rattle.model.specs.Sizes.{call_limit, task_limit, message_limit, within}
use Rattle.model.specs.Rows.{task, mailbox, message, valid, Row, TaskRow, QueueRow, MailboxRow, MessageRow, Environment, Effect, Model, has_room, senders_by_priority, waiters_by_priority, messages_by_priority}
use Rattle.model.specs.Codes.{Code, E_OK, E_TMOUT, finished, waits}
use Rattle.model.specs.Calls.{Call, View, names_message, message_of, may_wait, view_of, task_only}
use Rattle.model.specs.Waits.{End, NoWait, WaitQueue, senders_of, receivers_of, waiters_of, wait_queue}
use Rattle.model.specs.Errors.{unknown, unknown_in_table, polls, would_wait, refused}
use Rattle.model.specs.WaitQueues.{place, release, standing_in}
use Rattle.model.specs.DataQueues.{deliver, store, replace_oldest, wait_to_send, send, take_oldest, take_oldest_and_refill, take_from_sender, wait_to_receive, receive, cre_dtq, del_dtq, snd_dtq, psnd_dtq, tsnd_dtq, fsnd_dtq, rcv_dtq, prcv_dtq, trcv_dtq, ref_dtq}
use Rattle.model.specs.Mailboxes.{deliver_message, queue_message, take_message, wait_for_message, send_message, receive_message, cre_mbx, del_mbx, snd_mbx, rcv_mbx, prcv_mbx, trcv_mbx, ref_mbx}
use Rattle.model.specs.Tasks.{define_task, rel_wai, sus_tsk, rsm_tsk, look, fetch, expire, tick}
use Rattle.model.specs.Step.{effects, effect, no_call, step}
use Rattle.model.specs.WellFormed.{named_mailbox, WellFormedRows, WellFormed}
use Rattle.model.specs.Answers.{is_wait, WaitsExactly, PollsNeverWait, PlacesInRange}
use Rattle.model.specs.declared.Answer.{Answer}
use Rattle.model.specs.declared.Outcome.{Outcome}
use Rattle.model.specs.declared.Outcome.TheVariants.{Finished, Waits}
use Rattle.model.proofs.Tests.{is_false, from_within, or_left, neither, neither_right, not_both}
use Rattle.model.proofs.Choices.{cond_yes}
use Rattle.model.proofs.Step.{numbered, step_tick, step_call, run_accepted}
use Rattle.model.proofs.Accepted.{passes, Accepted, accepted}
use Rattle.model.proofs.Checked.{caller_able, message_free}
use Rattle.model.proofs.WaitMoves.{is_valid}
use Rattle.model.proofs.KeptCalls.{Valid}
use Rattle.model.proofs.Shown.{shown_caller, shown_message, some_queue_shown, some_mailbox_shown}
use Rattle.model.proofs.After.{After, after_return, after_get, after_put, after_if, after_get_each, after_free_messages}
use Rattle.model.proofs.Refusals.{refusals}
use Rattle.model.proofs.TaskRows.{after_end_wait_tasks, after_end_waits_tasks}

-- No more stay ahead of a newcomer than stand there.
place_within : {X : Type 0} (b : Bool) (priority : ℕ) (f : X → ℕ) (l : List X) → place b priority (map f l) ≤ length l
unfolding place
place_within true priority f l = rw (length-map l f) at (passed_within priority (map f l))
place_within false priority f l = rw (length-map l f) (le_refl (length l))

-- How many stand in the wait queue that the call would join.
abbrev standing_ahead : View → Call → ℕ
standing_ahead v c = cond (within 4 6 c.number) (length v.the_queue.senders) (cond (within 8 10 c.number) (length v.the_queue.receivers) (length v.the_mailbox.waiters))

-- P holds of every answer that the call, accepted, can give.
record AllAnswers (P : Answer → Type 0) (v : View) (c : Call) : Type 0 where
  waited : T (may_wait c && would_wait v c) → T (task_only c) → (n : ℕ) → n ≤ standing_ahead v c → P (waits n)
  served : T (not (may_wait c && would_wait v c)) → T (not (names_message c)) → (code : Code) (x y z : ℕ) → P (finished code x y z)
  sent : T (names_message c) → (n : ℕ) → n ≤ length v.the_mailbox.messages → P (finished E_OK n 0 0)

-- ── What a program answers ──

-- Every answer of the program is one of which P holds.
abbrev Says : (Answer → Type 0) → Effect → Program.Rows Row → Type 0
Says P p m = After (λ n a. P a) p m

module _ {P : Answer → Type 0} {m : Program.Rows Row} where
  module _ (q : ℕ) (x : QueueRow) where
    says_send : (word : ℕ) (otherwise : Effect) → (T (not (empty x.receivers)) → P (finished E_OK 0 0 0)) → (T (has_room x) → P (finished E_OK 0 0 0))
        → (T (empty x.receivers) → T (not (has_room x)) → Says P otherwise m) → Says P (send q x word otherwise) m
    unfolding send deliver release store
    says_send word otherwise delivered stored h =
        after_if (λ some. after_put (after_get (after_put (after_return (delivered some)))))
        (λ none. after_if (λ room. after_put (after_return (stored room))) (h (T_not-not (empty x.receivers) none)))

    says_wait_to_send : (me : ℕ) (row : TaskRow) (word : ℕ) (end : End) → ((n : ℕ) → n ≤ length x.senders → P (waits n)) → Says P (wait_to_send q x me row word end) m
    unfolding wait_to_send
    says_wait_to_send me row word end h = after_get_each task _ _ _ (after_put (after_put (after_return (h _ (place_within (senders_by_priority x.attribute) row.priority _ x.senders)))))

    says_receive : (otherwise : Effect) → (T (not (empty x.words)) → (a : ℕ) → P (finished E_OK a 0 0)) → (T (not (empty x.senders)) → (a : ℕ) → P (finished E_OK a 0 0))
        → (T (empty x.words) → T (empty x.senders) → Says P otherwise m) → Says P (receive q x otherwise) m
    unfolding receive take_oldest take_oldest_and_refill take_from_sender
    says_receive otherwise stored handed_over h =
        after_if (λ some. after_if (λ none. after_put (after_return (stored some _))) (λ sender. after_get (after_put (after_put (after_return (stored some _))))))
        (λ none. after_if (λ sender. after_get (after_put (after_put (after_return (handed_over sender _)))))
        (λ no_sender. h (T_not-not (empty x.words) none) (T_not-not (empty x.senders) no_sender)))

    says_wait_to_receive : (me : ℕ) (row : TaskRow) (end : End) → ((n : ℕ) → n ≤ length x.receivers → P (waits n)) → Says P (wait_to_receive q x me row end) m
    unfolding wait_to_receive
    says_wait_to_receive me row end h = after_put (after_put (after_return (h _ (le_refl _))))

  module _ (b : ℕ) (x : MailboxRow) where
    says_send_message : (g priority : ℕ) → ((n : ℕ) → n ≤ length x.messages → P (finished E_OK n 0 0)) → Says P (send_message b x g priority) m
    unfolding send_message deliver_message release queue_message
    says_send_message g priority h = after_if (λ some. after_put (after_get (after_put (after_return (h 0 zero-le)))))
        (λ none. after_get_each message _ _ _ (after_put (after_put (after_return (h _ (place_within (messages_by_priority x.attribute) priority _ x.messages))))))

    says_receive_message : (otherwise : Effect) → (T (not (empty x.messages)) → (a : ℕ) → P (finished E_OK a 0 0)) → (T (empty x.messages) → Says P otherwise m)
        → Says P (receive_message b x otherwise) m
    unfolding receive_message take_message
    says_receive_message otherwise taken h = after_if (λ some. after_put (after_put (after_return (taken some _)))) (λ none. h (T_not-not (empty x.messages) none))

    says_wait_for_message : (me : ℕ) (row : TaskRow) (end : End) → ((n : ℕ) → n ≤ length x.waiters → P (waits n)) → Says P (wait_for_message b x me row end) m
    unfolding wait_for_message
    says_wait_for_message me row end h = after_get_each task _ _ _ (after_put (after_put (after_return (h _ (place_within (waiters_by_priority x.attribute) row.priority _ x.waiters)))))

-- ── Every call, by number ──

-- Tests that fail because a part fails.
not_either : (a b : Bool) → T (not a) → T (not b) → T (not (a || b))
not_either true b t u = t
not_either false b t u = u

not_first : (a b : Bool) → T (not a) → T (not (a && b))
not_first true b t = absurd t
not_first false b t = tt

not_second : (a b : Bool) → T (not b) → T (not (a && b))
not_second true b t = t
not_second false b t = tt

not_not : (b : Bool) → T b → T (not (not b))
not_not true t = tt
not_not false t = absurd t

ruleset Fails = (not_either, not_first, not_second, not_not)

module _ (P : Answer → Type 0) (e : Environment) (v : View) (c : Call) (m : Program.Rows Row) where
  -- Call n has the effect f, and that answers as allowed if the call is accepted.
  abbrev SaysFor : ℕ → (Environment → View → Call → Effect) → Type 0
  SaysFor n f = AllAnswers P v (numbered n c) → T (not (unknown_in_table (numbered n c))) → Says P (f e v (numbered n c)) m

  for : (n : ℕ) (f : Environment → View → Call → Effect) → SaysFor n f → SaysFor n f
  for n f h = h

  says_effects : EachNumbered SaysFor effects
  unfolding EachNumbered effects one_of unknown_in_table would_wait replace_oldest
  says_effects =
      for 0 no_call (λ a p. absurd p)
      then for 1 define_task (λ a p. after_put (after_put (after_return (a.served tt tt _ _ _ _))))
      then for 2 cre_dtq (λ a p. after_put (after_return (a.served tt tt _ _ _ _)))
      then for 3 del_dtq (λ a p. after_end_waits_tasks _ _ _ _ λ n same. after_end_waits_tasks _ _ _ _ λ o same. after_put (after_return (a.served tt tt _ _ _ _)))
      then for 4 snd_dtq (λ a p. says_send _ _ _ _ (λ s. a.served (search Fails) tt _ _ _ _) (λ s. a.served (search Fails) tt _ _ _ _)
      (λ r f. says_wait_to_send _ _ _ _ _ _ (a.waited (search (or_left, yes_and)) tt)))
      then for 5 psnd_dtq (λ a p. says_send _ _ _ _ (λ s. a.served tt tt _ _ _ _) (λ s. a.served tt tt _ _ _ _) (λ r f. after_return (a.served tt tt _ _ _ _)))
      then for 6 tsnd_dtq (λ a p. says_send _ _ _ _ (λ s. a.served (search Fails) tt _ _ _ _) (λ s. a.served (search Fails) tt _ _ _ _)
      (λ r f. says_wait_to_send _ _ _ _ _ _ (a.waited (search (or_left, yes_and)) tt)))
      then for 7 fsnd_dtq (λ a p. says_send _ _ _ _ (λ s. a.served tt tt _ _ _ _) (λ s. a.served tt tt _ _ _ _) (λ r f. after_put (after_return (a.served tt tt _ _ _ _))))
      then for 8 rcv_dtq (λ a p. says_receive _ _ _ (λ s a'. a.served (search Fails) tt _ _ _ _) (λ s a'. a.served (search Fails) tt _ _ _ _)
      (λ n s. says_wait_to_receive _ _ _ _ _ (a.waited (search (or_left, yes_and)) tt)))
      then for 9 prcv_dtq (λ a p. says_receive _ _ _ (λ s a'. a.served tt tt _ _ _ _) (λ s a'. a.served tt tt _ _ _ _) (λ n s. after_return (a.served tt tt _ _ _ _)))
      then for 10 trcv_dtq (λ a p. says_receive _ _ _ (λ s a'. a.served (search Fails) tt _ _ _ _) (λ s a'. a.served (search Fails) tt _ _ _ _)
      (λ n s. says_wait_to_receive _ _ _ _ _ (a.waited (search (or_left, yes_and)) tt)))
      then for 11 ref_dtq (λ a p. after_return (a.served tt tt _ _ _ _))
      then for 12 cre_mbx (λ a p. after_put (after_return (a.served tt tt _ _ _ _)))
      then for 13 del_mbx (λ a p. after_end_waits_tasks _ _ _ _ λ n same. after_free_messages _ _ _ (after_put (after_return (a.served tt tt _ _ _ _))))
      then for 14 snd_mbx (λ a p. says_send_message _ _ _ _ (a.sent tt))
      then for 15 rcv_mbx (λ a p. says_receive_message _ _ _ (λ s a'. a.served s tt _ _ _ _) (λ n. says_wait_for_message _ _ _ _ _ (a.waited n tt)))
      then for 16 prcv_mbx (λ a p. says_receive_message _ _ _ (λ s a'. a.served tt tt _ _ _ _) (λ n. after_return (a.served tt tt _ _ _ _)))
      then for 17 trcv_mbx (λ a p. says_receive_message _ _ _ (λ s a'. a.served s tt _ _ _ _) (λ n. says_wait_for_message _ _ _ _ _ (a.waited n tt)))
      then for 18 ref_mbx (λ a p. after_return (a.served tt tt _ _ _ _))
      then for 19 rel_wai (λ a p. after_end_wait_tasks _ _ _ _ λ n same. after_return (a.served tt tt _ _ _ _))
      then for 20 sus_tsk (λ a p. after_put (after_return (a.served tt tt _ _ _ _)))
      then for 21 rsm_tsk (λ a p. after_put (after_return (a.served tt tt _ _ _ _)))
      then for 22 look (λ a p. after_return (a.served tt tt _ _ _ _))
      then for 23 fetch (λ a p. after_return (a.served tt tt _ _ _ _))
      then tt

  -- Beyond the table a number is unknown.
  beyond : (n : ℕ) → length effects ≤ n → SaysFor n no_call
  unfolding effects unknown_in_table unknown
  beyond n h a p = let known = nltb→le call_limit n (neither_right (eqb n 0) (ltb call_limit n) p) in absurd (omega arith)

  says_effect : SaysFor c.number effect
  unfolding effect
  says_effect = at_number SaysFor no_call effects beyond says_effects c.number

-- ── A whole step ──

known : (c : Call) → T (not (eqb c.number 0)) → T (not (unknown c)) → T (not (unknown_in_table c))
unfolding unknown_in_table
known c t u = neither (eqb c.number 0) (unknown c) t u

says_expire : {P : Answer → Type 0} (counter : ℕ) (l : List ℕ) (n : ℕ) (m : Program.Rows Row) → ((a : ℕ) → P (finished E_OK a 0 0)) → Says P (expire counter l n) m
unfolding expire
says_expire counter [] n m h = after_return (h n)
says_expire counter (t ∷ ts) n m h =
    after_get (after_if (λ is_due. after_end_wait_tasks t E_TMOUT _ m (λ o same. says_expire counter ts (suc n) o h)) (λ no_end. says_expire counter ts n m h))

-- The tick answers E_OK, a refused call its code, an accepted call as its number says.
step_says : (P : Answer → Type 0) (m : Model) (c : Call) → (T (eqb c.number 0) → (a : ℕ) → P (finished E_OK a 0 0))
    → (T (not (eqb c.number 0)) → T (refused (view_of m c) c) → (code : Code) → P (finished code 0 0 0))
    → (T (not (eqb c.number 0)) → T (not (refused (view_of m c) c)) → AllAnswers P (view_of m c) c) → P (step m c).answer
unfolding step_of tick
step_says P m c tick_case refused_case accepted_case = go (eqb c.number 0) (refused (view_of m c) c) (λ t. t) (λ t. t) (λ t. t) (λ t. t)
  where
    go : (b r : Bool) → (T b → T (eqb c.number 0)) → (T (not b) → T (not (eqb c.number 0)))
        → (T r → T (refused (view_of m c) c)) → (T (not r) → T (not (refused (view_of m c) c))) → P (step m c).answer
    go true r is_tick is_call is_refused is_accepted = rw (step_tick m c (is_tick tt)) (says_expire {P = P} _ _ _ m.rows (tick_case (is_tick tt))).holds
    go false true is_tick is_call is_refused is_accepted = rw ((refusals m c (is_call tt)).by_row (is_refused tt)) (refused_case (is_call tt) (is_refused tt) _)
    go false false is_tick is_call is_refused is_accepted = let ok = is_accepted tt in
        rw (step_call m c (is_call tt), run_accepted m c ok)
        (says_effect P m.environment (view_of m c) c m.rows (accepted_case (is_call tt) ok) (known c (is_call tt) (passes (view_of m c) c ok).step_0)).holds

-- ── Which answers are "waits" ──

is_true : (b : Bool) → T b → true ≡ b
is_true true t = refl
is_true false t = absurd t

-- The test by which a call waits, where its number, the error table or the state decides it.
module _ (a r w : Bool) where
  by_number : T (not a) → false ≡ (a && not r && w)
  by_number t = sym (is_false (a && not r && w) (not_first (a && not r) w (not_first a (not r) t)))

  if_refused : T r → false ≡ (a && not r && w)
  if_refused t = sym (is_false (a && not r && w) (not_first (a && not r) w (not_second a (not r) (not_not r t))))

  if_served : T (not w) → false ≡ (a && not r && w)
  if_served t = sym (is_false (a && not r && w) (not_second (a && not r) w t))

  if_accepted : T (not r) → (a && w) ≡ (a && not r && w)
  if_accepted t = ap (λ b. b && w) (sym (ap (λ b. a && b) (sym (is_true (not r) t)) ∙ and-true a))

-- The tick and call 14 never wait.
no_tick_waits : (n : ℕ) → T (eqb n 0) → T (not (one_of n (4 ∷ 6 ∷ 8 ∷ 10 ∷ 15 ∷ 17 ∷ [])))
unfolding one_of
no_tick_waits n t = rw (eqb→eq n 0 t) tt

no_send_waits : (n : ℕ) → T (eqb n 14) → T (not (one_of n (4 ∷ 6 ∷ 8 ∷ 10 ∷ 15 ∷ 17 ∷ [])))
unfolding one_of
no_send_waits n t = rw (eqb→eq n 14 t) tt

pub waits_exactly : WaitsExactly
waits_exactly m c = step_says (λ a. is_wait a.outcome ≡ (may_wait c && not (refused v c) && would_wait v c)) m c
    (λ t a. by_number (may_wait c) (refused v c) (would_wait v c) (no_tick_waits c.number t))
    (λ t r code. if_refused (may_wait c) (refused v c) (would_wait v c) r)
    (λ t r. record {
      waited = λ w h n k. is_true _ w ∙ if_accepted (may_wait c) (refused v c) (would_wait v c) r;
      served = λ w h code x y z. sym (is_false _ w) ∙ if_accepted (may_wait c) (refused v c) (would_wait v c) r;
      sent = λ h n k. by_number (may_wait c) (refused v c) (would_wait v c) (no_send_waits c.number h);
    })
  where
    v : View
    v = view_of m c

pub polls_never_wait : PollsNeverWait
polls_never_wait m c t = waits_exactly m c ∙ go (refused v c) (λ r. r) (λ r. r)
  where
    v : View
    v = view_of m c

    go : (r : Bool) → (T r → T (refused v c)) → (T (not r) → T (not (refused v c))) → (may_wait c && not (refused v c) && would_wait v c) ≡ false
    go true is_refused is_accepted = sym (if_refused (may_wait c) (refused v c) (would_wait v c) (is_refused tt))
    go false is_refused is_accepted = sym (if_served (may_wait c) (refused v c) (would_wait v c) (not_both (polls c) (would_wait v c) (passes v c (is_accepted tt)).step_7 t))

-- ── Places ──

-- Of the numbers from 1 to a limit, a list that has none twice, and lacks one, has fewer than the limit.
fewer_than : (limit t : ℕ) (l : List ℕ) → Once l → (In t l → ⊥) → T (within 1 limit t) → ((x : ℕ) → In x l → T (within 1 limit x)) → length l < limit
fewer_than limit t l o absent own others =
    let longer = bounded (suc limit) (once (λ i. ⊎_elim (λ e. no_zero t own (sym e)) (λ j. no_zero 0 (others 0 j) refl) (Memᴰ.cases_cons i)) (once absent o)) below in
    omega arith
  where
    no_zero : (x : ℕ) → T (within 1 limit x) → x ≡ 0 → ⊥
    no_zero x h e = let k = (from_within 1 limit x h).0 in omega arith

    below : (x : ℕ) → In x (0 ∷ t ∷ l) → x < suc limit
    below x i = ⊎_elim (λ e. omega arith) (λ j. ⊎_elim (λ e. let k = (from_within 1 limit t own).1 in omega arith) (λ k. let h = (from_within 1 limit x (others x k)).1 in omega arith) (Memᴰ.cases_cons j)) (Memᴰ.cases_cons i)

module _ {m : Program.Rows Row} (w : WellFormedRows m) where
  -- A task that doesn't wait stands in no wait queue, so 31 others stand there at the most.
  fewer_standing : (t : ℕ) → T (valid (task t)) → (m (task t)).wait ≡ NoWait → (k : WaitQueue) → length (standing_in m k) < task_limit
  fewer_standing t own able k = fewer_than task_limit t (standing_in m k) (w.waiting.no_twice k)
      (λ i. none-ne-some k (sym (ap wait_queue able) ∙ w.waiting.no_other t k i)) own
      (λ x i. is_valid w (task x) (λ e. none-ne-some k (sym (ap (λ (row : TaskRow). wait_queue row.wait) e) ∙ w.waiting.no_other x k i)))

  -- A message that is free is queued nowhere, so 63 others are queued in a mailbox at the most.
  fewer_queued : (g : ℕ) → T (valid (message g)) → T (eqb (m (message g)).queued_in 0) → (b : ℕ) → length (m (mailbox b)).messages < message_limit
  fewer_queued g own is_free b = fewer_than message_limit g (m (mailbox b)).messages (w.queued.no_twice b)
      (λ i. none-ne-some b (sym (cond_yes (eqb (m (message g)).queued_in 0) none (some (m (message g)).queued_in) is_free) ∙ w.queued.no_other g b i)) own
      (λ x i. is_valid w (message x) (λ e. none-ne-some b (sym (ap (λ (row : MessageRow). named_mailbox row) e) ∙ w.queued.no_other x b i)))

-- The same of what is in view.
module _ (m : Model) (c : Call) (w : WellFormed m) (ok : T (not (refused (view_of m c) c))) where
  abbrev v : View
  v = view_of m c

  in_range : Accepted Valid c
  in_range = accepted Valid v c (each_of_all (λ k t. t) _) ok

  fewer_ahead : T (task_only c) → standing_ahead v c < task_limit
  fewer_ahead h = smaller (within 4 6 c.number) (some_queue_shown m c (λ (x : QueueRow). length x.senders < task_limit) (λ q. fewer (senders_of q)) (omega arith))
      (smaller (within 8 10 c.number) (some_queue_shown m c (λ (x : QueueRow). length x.receivers < task_limit) (λ q. fewer (receivers_of q)) (omega arith))
      (some_mailbox_shown m c (λ (x : MailboxRow). length x.waiters < task_limit) (λ b. fewer (waiters_of b)) (omega arith)))
    where
      smaller : {x y : ℕ} (b : Bool) → x < task_limit → y < task_limit → cond b x y < task_limit
      smaller true p q = p
      smaller false p q = q

      fewer : (k : WaitQueue) → length (standing_in m.rows k) < task_limit
      fewer k = fewer_standing w.rows c.caller (in_range.caller_in h)
          (subst (λ (x : TaskRow). x.wait ≡ NoWait) (shown_caller m c (in_range.caller_in h)) (caller_able (passes v c ok) h)) k

  fewer_messages : T (names_message c) → length v.the_mailbox.messages < message_limit
  fewer_messages h = some_mailbox_shown m c (λ (x : MailboxRow). length x.messages < message_limit)
      (λ b. fewer_queued w.rows (message_of c) (in_range.message_in h)
      (subst (λ (x : MessageRow). T (eqb x.queued_in 0)) (shown_message m c h (in_range.message_in h)) (message_free (passes v c ok) h)) b) (omega arith)

finished_not_waits : {code : Code} {n : ℕ} {X : Type 0} → Finished code ≡ Waits n → X
finished_not_waits e = absurd (false≢true (ap is_wait e))

abbrev place_of : Outcome → ℕ
place_of (Finished code) = 0
place_of (Waits n) = n

abbrev InRange : Call → Answer → Type 0
InRange c a = ((n : ℕ) → a.outcome ≡ Waits n → n < task_limit) × (T (eqb c.number 14) → a.a < message_limit)

pub places_in_range : PlacesInRange
places_in_range m c w = let h = step_says (InRange c) m c (λ t a. (λ n e. finished_not_waits e, λ g. absurd (no_tick_sends c.number t g))) (λ t r code. (λ n e. finished_not_waits e, λ g. omega arith))
    (λ t ok. record {
      waited = λ q h n k. let l = fewer_ahead m c w ok h in (λ j e. let same : n ≡ j = ap place_of e in omega arith, λ g. omega arith);
      served = λ q h code x y z. (λ n e. finished_not_waits e, λ g. absurd (T_not (names_message c) h g));
      sent = λ h n k. let l = fewer_messages m c w ok h in (λ j e. finished_not_waits e, λ g. omega arith);
    }) in record { place_below = h.0; messages_ahead_below = h.1 }
  where
    no_tick_sends : (n : ℕ) → T (eqb n 0) → T (eqb n 14) → ⊥
    no_tick_sends n t g = let a = eqb→eq n 0 t in let b = eqb→eq n 14 g in omega arith
