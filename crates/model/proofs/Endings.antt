-- Each wait ends with the code and word due to it: a call by cases, refused or accepted, the tick task by task; then what is read off the row before and after.
use mathlib.Core.Path.{◌≡◌, refl, sym, ◌∙◌, ap, subst, fun_ext}
use mathlib.Core.Bool.{Bool, true, false, not, ◌&&◌, ◌||◌, cond, and-false}
use mathlib.Core.List.Memᴰ
use mathlib.Core.List.{List, [], ◌∷◌, head_d, Memᴰ as In}
use mathlib.Core.Logic.{◌≢◌, ⊎_elim}
use mathlib.Core.Option.{Option, none, some, none-ne-some}
use Prim.Native.Nat.{ℕ, zero, suc, ◌+◌, ◌%◌, ◌<◌, ◌≤◌}
use native.Mathlib.Decide.{ℕ_discrete}
use native.Mathlib.Nat.{add-zero, zero-add, le_refl}
use native.Mathlib.Omega.{arith}
use lib.Dec.{T, T_not, not_T, eqb, eqb→eq, eqb_refl}
use lib.ListN.{length}
use borrow.Author.Tests.{ne_eqb}
use mir.Facts.{T_not-not, and_yes, or_yes, yes_and}
use Rattle.lists.specs.Lists.{Each, none as no_more, both, empty, one_of, ascending}
use Rattle.lists.specs.Options.{absent}
use Rattle.lists.proofs.Each.{each_of_all}
use Rattle.lists.proofs.Members.{is_one_of}
use Rattle.lists.proofs.Stands.{in_head}
use Rattle.lists.proofs.Tests.{passed_test}
use Rattle.rows.specs.Program as Program
use Rattle.rows.specs.Program.{run, update, step_of}
use Rattle.rows.specs.Runs.{end}
use Rattle.model.specs.Sizes.{task_limit, counter_span}
use Rattle.model.specs.Rows.{task, same_key, Row, TaskRow, QueueRow, MailboxRow, Model}
use Rattle.model.specs.Codes.{E_OK, E_TMOUT, finished}
use Rattle.model.specs.Calls.{Call, View, sends_for_room, sends_forced, receives_word, view_of}
use Rattle.model.specs.Waits.{Wait, NoWait, Sending, Receiving, AtMailbox, able, ended, wait_end, due, WaitQueue, senders_of, receivers_of, waiters_of, wait_queue}
use Rattle.model.specs.Errors.{refused}
use Rattle.model.specs.Tasks.{expire, tick}
use Rattle.model.specs.Step.{effect, step}
use Rattle.model.specs.WellFormed.{WellFormedRows, WellFormed}
use Rattle.model.specs.Answers.{is_wait}
use Rattle.model.specs.WaitQueues.{standing_in}
use Rattle.model.specs.Endings.{is_waiting, wait_ended, CodeAndWord, timed_out, ended_with, WaitEnd, add_end, ends_among, ended_waits, Cause, is_head, causes, first_cause, takes_effect, due_to, row_after, wait_begins, begun_wait, defines, WaitsEndAsDue, EndedWaitsAreDue, TickCountsEnds}
use Rattle.model.specs.declared.Answer.{Answer}
use Rattle.model.proofs.Tests.{from_within, or_left, or_right, not_both_left}
use Rattle.model.proofs.Choices.{cond_yes, cond_no}
use Rattle.model.proofs.Standing.{task_cases}
use Rattle.model.proofs.Step.{numbered, step_call, run_accepted}
use Rattle.model.proofs.Accepted.{passes, accepted}
use Rattle.model.proofs.Checked.{task_waits}
use Rattle.model.proofs.Refusals.{refusals}
use Rattle.model.proofs.WaitMoves.{is_valid}
use Rattle.model.proofs.After.{After, after_return, after_get, after_if}
use Rattle.model.proofs.KeptCalls.{Valid}
use Rattle.model.proofs.KeptTick.{due_waits}
use Rattle.model.proofs.TaskRows.{SameTasks, after_end_wait_tasks}
use Rattle.model.proofs.Shown.{shown_task, some_queue_shown, some_mailbox_shown}
use Rattle.model.proofs.Answers.{waits_exactly}
use Rattle.model.proofs.DueCalls.{as_due, Begins, Defines, Turn, ended_if, left_effect}

-- ── The tick ──

one_of_ascending : (n first t : ℕ) → first ≤ t → t < first + n → T (one_of t (ascending first n))
unfolding one_of ascending
one_of_ascending zero first t low high = absurd (omega arith)
one_of_ascending (suc n) first t low high = go (ℕ_discrete t first) (one_of_ascending n (suc first) t)
  where
    go : Dec (t ≡ first) → (suc first ≤ t → t < suc first + n → T (one_of t (ascending (suc first) n))) → T (eqb t first || one_of t (ascending (suc first) n))
    go (yes e) h = or_left (eqb t first) _ (rw e (eqb_refl first))
    go (no d) h = or_right (eqb t first) _ (h (omega arith) (omega arith))

module _ (counter t : ℕ) where
  -- The row of t after the waits of these tasks that are due have ended.
  abbrev expired : List ℕ → ℕ → TaskRow → TaskRow
  expired l j x = cond (due counter (wait_end x.wait) && one_of j l) (ended E_TMOUT 0 x) x

  not_due : (h : ℕ) (ts : List ℕ) (j : ℕ) (x : TaskRow) → (j ≡ h → T (not (due counter (wait_end x.wait)))) → expired ts j x ≡ expired (h ∷ ts) j x
  unfolding one_of
  not_due h ts j x k = go (due counter (wait_end x.wait)) k
    where
      go : (b : Bool) → (j ≡ h → T (not b)) → cond (b && one_of j ts) (ended E_TMOUT 0 x) x ≡ cond (b && (eqb j h || one_of j ts)) (ended E_TMOUT 0 x) x
      go true n = rw (ne_eqb j h n)
      go false n = refl

  left_expired : (l : List ℕ) (count : ℕ) (m : Program.Rows Row) → After (λ o a. o (task t) ≡ expired l t (m (task t))) (expire counter l count) m
  unfolding expire one_of
  left_expired [] count m = after_return (rw (and-false (due counter (wait_end (m (task t)).wait))))
  left_expired (h ∷ ts) count m = after_get (after_if
      (λ is_due. after_end_wait_tasks h E_TMOUT _ m (λ n same. record { holds = (left_expired ts (suc count) n).holds ∙ (ap (expired ts t) (same t) ∙ ended_now is_due) }))
      (λ no_end. record { holds = (left_expired ts count m).holds ∙ not_due h ts t (m (task t)) (λ e. subst (λ j. T (not (due counter (wait_end (m (task j)).wait)))) (sym e) no_end) }))
    where
      ended_now : T (due counter (wait_end (m (task h)).wait)) → expired ts t (update same_key (task h) (ended E_TMOUT 0 (m (task h))) m (task t)) ≡ expired (h ∷ ts) t (m (task t))
      ended_now is_due = task_cases h m (λ j y. expired ts j y ≡ expired (h ∷ ts) j (m (task j))) (ended E_TMOUT 0 (m (task h)))
          (sym (cond_yes (due counter (wait_end (m (task h)).wait) && (eqb h h || one_of h ts)) (ended E_TMOUT 0 (m (task h))) (m (task h)) (yes_and (due counter (wait_end (m (task h)).wait)) (eqb h h || one_of h ts) is_due (or_left (eqb h h) (one_of h ts) (eqb_refl h))))) t (λ n. rw (ne_eqb t h n))

-- ── A whole step ──

-- What a step leaves of the row of t.
pub record StepTurn (m : Model) (c : Call) (t : ℕ) : Type 0 where
  pub if_begins : T (wait_begins m c t) → Begins (begun_wait m c) (m.rows (task t)) (row_after m c t)
  pub if_defines : T (defines m c t) → Defines c (m.rows (task t)) (row_after m c t)
  pub else_due : T (not (wait_begins m c t)) → T (not (defines m c t)) → row_after m c t ≡ as_due (due_to m c t) (m.rows (task t))

-- Both tests pass where the first does, if the second then does.
first_enough : (a b : Bool) → (T a → T b) → (a && b) ≡ a
first_enough true true h = refl
first_enough true false h = absurd (h tt)
first_enough false b h = refl

-- The tick ends the waits that are due.
pub ticked_row : (m : Model) (t : ℕ) → WellFormedRows m.rows
    → (tick m).state.rows (task t) ≡ cond (due ((m.environment.counter + 1) % counter_span) (wait_end (m.rows (task t)).wait)) (ended E_TMOUT 0 (m.rows (task t))) (m.rows (task t))
unfolding tick
ticked_row m t w = (left_expired next t (ascending 1 task_limit) 0 m.rows).holds
    ∙ ap (λ b. cond b (ended E_TMOUT 0 x) x) (first_enough (due next (wait_end x.wait)) (one_of t (ascending 1 task_limit)) counted)
  where
    next : ℕ
    next = (m.environment.counter + 1) % counter_span

    x : TaskRow
    x = m.rows (task t)

    -- Every task that waits has its turn.
    counted : T (due next (wait_end x.wait)) → T (one_of t (ascending 1 task_limit))
    counted is_due =
        let k = from_within 1 task_limit t (is_valid w (task t) (λ e. T_not (able x.wait) (due_waits next x.wait is_due) (subst (λ (y : TaskRow). T (able y.wait)) (sym e) tt))) in
        one_of_ascending task_limit 1 t k.0 (let high = k.1 in omega arith)

tick_turn : (m : Model) (c : Call) (t : ℕ) → WellFormed m → StepTurn m (numbered 0 c) t
unfolding step due_to causes first_cause one_of
tick_turn m c t w = record {
  if_begins = λ h. absurd (subst (λ b. T (b && eqb t c.caller)) (waits_exactly m (numbered 0 c)) h);
  if_defines = λ h. absurd h;
  else_due = λ h k. ticked_row m t w.rows
      ∙ ended_if (due ((m.environment.counter + 1) % counter_span) (wait_end (m.rows (task t)).wait)) (record { code = E_TMOUT; word = 0 }) (m.rows (task t));
}

module _ (m : Model) (c : Call) (t : ℕ) (call_case : T (not (eqb c.number 0))) where
  refused_turn : T (refused (view_of m c) c) → StepTurn m c t
  unfolding due_to
  refused_turn r = let same = (refusals m c call_case).by_row r in record {
    if_begins = λ h. absurd (subst (λ (o : Program.Result Model Answer). T (is_wait o.answer.outcome && eqb t c.caller)) same h);
    if_defines = λ h. absurd (T_not (refused (view_of m c) c) (and_yes (eqb c.number 1 && eqb t c.object) (not (refused (view_of m c) c)) h).1 r);
    else_due = λ h k. ap (λ (o : Program.Result Model Answer). o.state.rows (task t)) same ∙ ap (λ g. as_due g (m.rows (task t))) (sym (cond_no (takes_effect m c) _ none no_effect));
  }
    where
      no_effect : T (not (takes_effect m c))
      no_effect = not_T (takes_effect m c) (λ h. ⊎_elim (T_not (eqb c.number 0) call_case) (λ k. T_not (refused (view_of m c) c) k r) (or_yes (eqb c.number 0) (not (refused (view_of m c) c)) h))

  accepted_turn : T (not (refused (view_of m c) c)) → StepTurn m c t
  unfolding step_of due_to
  accepted_turn ok = record {
    if_begins = turn.begins;
    if_defines = λ h. turn.defines (and_yes (eqb c.number 1 && eqb t c.object) (not (refused (view_of m c) c)) h).0;
    else_due = λ h k. turn.else_due h (not_both_left (eqb c.number 1 && eqb t c.object) (not (refused (view_of m c) c)) k ok)
        ∙ ap (λ g. as_due g (m.rows (task t))) (sym (cond_yes (takes_effect m c) _ none (or_right (eqb c.number 0) _ ok)));
  }
    where
      same : step m c ≡ record { state = record { environment = m.environment; rows = (run same_key (effect m.environment (view_of m c) c) m.rows).state }; answer = (run same_key (effect m.environment (view_of m c) c) m.rows).answer }
      same = step_call m c call_case ∙ ap (λ o. record { state = record { environment = m.environment; rows = o.state }; answer = o.answer }) (run_accepted m c ok)

      turn : Turn c (begun_wait m c) t (first_cause (causes m c t)) (m.rows (task t)) (row_after m c t) (step m c).answer
      turn = subst (λ (o : Program.Result Model Answer). Turn c (begun_wait m c) t (first_cause (causes m c t)) (m.rows (task t)) (o.state.rows (task t)) o.answer) (sym same)
          (left_effect m c t (accepted Valid (view_of m c) c (each_of_all (λ k h. h) _) ok) (passes (view_of m c) c ok)).holds

pub step_turn : (m : Model) (c : Call) (t : ℕ) → WellFormed m → StepTurn m c t
step_turn m c t w = go (eqb c.number 0) (refused (view_of m c) c) (eqb→eq c.number 0) (λ h. h) (λ h. h) (λ h. h)
  where
    go : (b r : Bool) → (T b → c.number ≡ 0) → (T (not b) → T (not (eqb c.number 0))) → (T r → T (refused (view_of m c) c)) → (T (not r) → T (not (refused (view_of m c) c))) → StepTurn m c t
    go true r is_tick is_call is_refused is_accepted = subst (λ n. StepTurn m (numbered n c) t) (sym (is_tick tt)) (tick_turn m c t w)
    go false true is_tick is_call is_refused is_accepted = refused_turn m c t (is_call tt) (is_refused tt)
    go false false is_tick is_call is_refused is_accepted = accepted_turn m c t (is_call tt) (is_accepted tt)

-- ── Nothing is due to a task that doesn't wait ──

no_cause : (l : List Cause) → Each (λ x. T x.applies → ⊥) l → first_cause l ≡ none
unfolding first_cause
no_cause [] no_more = refl
no_cause (x ∷ xs) (both f e) = cond_no x.applies (some x.pair) (first_cause xs) (not_T x.applies f) ∙ no_cause xs e

named_waits : (x : Wait) (k : WaitQueue) → wait_queue x ≡ some k → T (not (able x))
named_waits NoWait k e = absurd (none-ne-some k e)
named_waits (Sending q end word) k e = tt
named_waits (Receiving q end) k e = tt
named_waits (AtMailbox b end) k e = tt

head_in : (t : ℕ) (l : List ℕ) → T (is_head t l) → In t l
unfolding is_head
head_in t l h = let k = and_yes (not (empty l)) (eqb t (head_d l 0)) h in Memᴰ.cast (eqb→eq t (head_d l 0) k.1) (in_head l k.0)

-- The task that an accepted rel_wai names waits.
released_waits : (m : Model) (c : Call) → T (not (refused (view_of m (numbered 19 c)) (numbered 19 c))) → T (is_waiting m.rows c.object)
unfolding one_of
released_waits m c ok =
    let a = accepted Valid (view_of m (numbered 19 c)) (numbered 19 c) (each_of_all (λ k h. h) _) ok in
    subst (λ (x : TaskRow). T (not (able x.wait))) (shown_task m (numbered 19 c) tt (a.task_in tt)) (task_waits (passes (view_of m (numbered 19 c)) (numbered 19 c) ok) tt)

module _ (m : Model) (c : Call) (t : ℕ) (w : WellFormed m) (no_wait : T (not (is_waiting m.rows t))) where
  not_in : (k : WaitQueue) → In t (standing_in m.rows k) → ⊥
  not_in k i = T_not (is_waiting m.rows t) no_wait (named_waits (m.rows (task t)).wait k (w.rows.waiting.no_other t k i))

  not_sending : In t (view_of m c).the_queue.senders → ⊥
  not_sending = some_queue_shown m c (λ (x : QueueRow). In t x.senders → ⊥) (λ q. not_in (senders_of q)) Memᴰ.not-nil

  not_receiving : In t (view_of m c).the_queue.receivers → ⊥
  not_receiving = some_queue_shown m c (λ (x : QueueRow). In t x.receivers → ⊥) (λ q. not_in (receivers_of q)) Memᴰ.not-nil

  not_at_mailbox : In t (view_of m c).the_mailbox.waiters → ⊥
  not_at_mailbox = some_mailbox_shown m c (λ (x : MailboxRow). In t x.waiters → ⊥) (λ b. not_in (waiters_of b)) Memᴰ.not-nil

  not_released : T (takes_effect m c) → T (eqb c.number 19) → t ≡ c.object → ⊥
  not_released h n e = T_not (is_waiting m.rows t) no_wait (subst (λ j. T (is_waiting m.rows j)) (sym e)
      (subst (λ k. T (takes_effect m (numbered k c)) → T (is_waiting m.rows c.object)) (sym (eqb→eq c.number 19 n)) (released_waits m c) h))

  no_row : (a b : Bool) → (T b → ⊥) → T (a && b) → ⊥
  no_row a b f h = f (and_yes a b h).1

  nothing_due_to : due_to m c t ≡ none
  unfolding due_to causes
  nothing_due_to = go (takes_effect m c) (λ h. h)
    where
      x : View
      x = view_of m c

      next : ℕ
      next = (m.environment.counter + 1) % counter_span

      go : (b : Bool) → (T b → T (takes_effect m c)) → cond b (first_cause (causes m c t)) none ≡ none
      go true h = no_cause (causes m c t)
          (both (no_row (eqb c.number 0) (due next (wait_end (m.rows (task t)).wait)) (λ k. T_not (is_waiting m.rows t) no_wait (due_waits next (m.rows (task t)).wait k)))
          (both (no_row (sends_for_room c || sends_forced c) (is_head t x.the_queue.receivers) (λ k. not_receiving (head_in t x.the_queue.receivers k)))
          (both (no_row (receives_word c) (is_head t x.the_queue.senders) (λ k. not_sending (head_in t x.the_queue.senders k)))
          (both (no_row (eqb c.number 14) (is_head t x.the_mailbox.waiters) (λ k. not_at_mailbox (head_in t x.the_mailbox.waiters k)))
          (both (no_row (eqb c.number 3) (one_of t x.the_queue.senders || one_of t x.the_queue.receivers)
          (λ k. ⊎_elim (λ i. not_sending (passed_test (is_one_of t x.the_queue.senders) i)) (λ i. not_receiving (passed_test (is_one_of t x.the_queue.receivers) i))
          (or_yes (one_of t x.the_queue.senders) (one_of t x.the_queue.receivers) k)))
          (both (no_row (eqb c.number 13) (one_of t x.the_mailbox.waiters) (λ k. not_at_mailbox (passed_test (is_one_of t x.the_mailbox.waiters) k)))
          (both (λ k. let p = and_yes (eqb c.number 19) (eqb t c.object) k in not_released (h tt) p.0 (eqb→eq t c.object p.1))
          no_more)))))))
      go false h = refl

-- ── What is read off the two rows ──

pub waits_end_as_due : WaitsEndAsDue
waits_end_as_due m c t w = record {
  ends = λ e h d. turn.else_due (no_begin h) (no_define h) ∙ ap (λ g. as_due g x) d;
  goes_on = λ h d. turn.else_due (no_begin h) (no_define h) ∙ ap (λ g. as_due g x) d;
  nothing_due = nothing_due_to m c t w;
  begins = λ h. let b = turn.if_begins h in (was_able b, b.started);
  defined = λ h. let d = turn.if_defines h in (d.undefined, d.new);
  stays = λ h b d. turn.else_due b d ∙ ap (λ g. as_due g x) (nothing_due_to m c t w h);
}
  where
    x : TaskRow
    x = m.rows (task t)

    turn : StepTurn m c t
    turn = step_turn m c t w

    was_able : {y : TaskRow} → Begins (begun_wait m c) x y → T (not (is_waiting m.rows t))
    was_able b = subst (λ (z : Wait). T (not (not (able z)))) (sym b.able_before) tt

    no_begin : T (is_waiting m.rows t) → T (not (wait_begins m c t))
    no_begin h = not_T (wait_begins m c t) (λ b. T_not (is_waiting m.rows t) (was_able (turn.if_begins b)) h)

    no_define : T (is_waiting m.rows t) → T (not (defines m c t))
    no_define h = not_T (defines m c t) (λ d. subst (λ (z : Wait). T (not (able z))) ((w.rows.tasks t).undefined (turn.if_defines d).undefined) h)

-- The pair read off the rows x before and y after is what was due.
read_ended : (x y : TaskRow) (g : Option CodeAndWord) → (T (not (able x.wait)) → y ≡ as_due g x) → (T (not (not (able x.wait))) → g ≡ none)
    → cond (not (able x.wait) && not (not (able y.wait))) (some (record { code = y.code; word = y.word })) none ≡ g
read_ended x y g waited rested = go (able x.wait) (λ h. h) waited rested
  where
    kept : (g : Option CodeAndWord) → T (not (able x.wait))
        → cond (not (not (able (as_due g x).wait))) (some (record { code = (as_due g x).code; word = (as_due g x).word })) none ≡ g
    kept none h = cond_no (not (not (able x.wait))) (some (record { code = x.code; word = x.word })) none (not_T (not (not (able x.wait))) (λ k. T_not (able x.wait) h (T_not-not (able x.wait) k)))
    kept (some e) h = refl

    go : (b : Bool) → (T (not b) → T (not (able x.wait))) → (T (not b) → y ≡ as_due g x) → (T (not (not b)) → g ≡ none)
        → cond (not b && not (not (able y.wait))) (some (record { code = y.code; word = y.word })) none ≡ g
    go true own h k = sym (k tt)
    go false own h k = subst (λ (z : TaskRow). cond (not (not (able z.wait))) (some (record { code = z.code; word = z.word })) none ≡ g) (sym (h tt)) (kept g (own tt))

given_if : (b : Bool) (e : CodeAndWord) → not (absent (cond b (some e) none)) ≡ b
given_if true e = refl
given_if false e = refl

pub ended_waits_are_due : EndedWaitsAreDue
ended_waits_are_due m c w = record {
  where_due = λ t. sym (given_if (wait_ended m.rows (step m c).state.rows t) _) ∙ ap (λ (e : Option CodeAndWord). not (absent e)) (each t);
  as_due = each;
  all_as_due = ap (λ given. ends_among given (ascending 1 task_limit)) (fun_ext each);
}
  where
    row_is : (t : ℕ) (g : Option CodeAndWord) → due_to m c t ≡ g → T (is_waiting m.rows t) → row_after m c t ≡ as_due (due_to m c t) (m.rows (task t))
    row_is t none e h = rw e ((waits_end_as_due m c t w).goes_on h e)
    row_is t (some d) e h = rw e ((waits_end_as_due m c t w).ends d h e)

    each : (t : ℕ) → ended_with m.rows (step m c).state.rows t ≡ due_to m c t
    each t = read_ended (m.rows (task t)) (row_after m c t) (due_to m c t) (row_is t (due_to m c t) refl) (waits_end_as_due m c t w).nothing_due

-- ── The tick's count ──

module _ (counter : ℕ) (m : Program.Rows Row) where
  -- What is due in the tick, by the rows before it.
  abbrev due_now : ℕ → Option CodeAndWord
  due_now t = cond (due counter (wait_end (m (task t)).wait)) (some timed_out) none

  -- The tasks from `first` on have their rows still, so that they are counted as they were.
  counts : (n first count : ℕ) (o : Program.Rows Row) → ((t : ℕ) → first ≤ t → o (task t) ≡ m (task t))
      → After (λ p a. a ≡ finished E_OK (count + length (ends_among due_now (ascending first n))) 0 0) (expire counter (ascending first n) count) o
  unfolding expire ascending ends_among
  counts zero first count o same = after_return (rw (add-zero count))
  counts (suc n) first count o same = after_get (after_if
      (λ is_due. after_end_wait_tasks first E_TMOUT _ o (λ p left. record { holds = (counts n (suc first) (suc count) p (later p left)).holds ∙ ap (λ k. finished E_OK k 0 0) (one_more is_due) }))
      (λ no_end. record { holds = (counts n (suc first) count o (λ t h. same t (omega arith))).holds ∙ ap (λ k. finished E_OK k 0 0) (none_more no_end) }))
    where
      others : List WaitEnd
      others = ends_among due_now (ascending (suc first) n)

      later : (p : Program.Rows Row) → SameTasks (update same_key (task first) (ended E_TMOUT 0 (o (task first))) o) p → (t : ℕ) → suc first ≤ t → p (task t) ≡ m (task t)
      later p left t h = left t ∙ (task_cases first o (λ j y. j ≢ first → y ≡ o (task j)) _ (λ d. absurd (d refl)) t (λ d e. refl) (λ e. omega arith) ∙ same t (omega arith))

      one_more : T (due counter (wait_end (o (task first)).wait)) → suc count + length others ≡ count + length (add_end first (due_now first) others)
      one_more h = rw (cond_yes (due counter (wait_end (m (task first)).wait)) (some timed_out) none
          (subst (λ (x : TaskRow). T (due counter (wait_end x.wait))) (same first (le_refl first)) h)) (omega arith)

      none_more : T (not (due counter (wait_end (o (task first)).wait))) → count + length others ≡ count + length (add_end first (due_now first) others)
      none_more h = rw (cond_no (due counter (wait_end (m (task first)).wait)) (some timed_out) none
          (subst (λ (x : TaskRow). T (not (due counter (wait_end x.wait)))) (same first (le_refl first)) h)) refl

tick_counts : (m : Model) (c : Call) → WellFormed m → (step m (numbered 0 c)).answer ≡ finished E_OK (length (ended_waits m.rows (step m (numbered 0 c)).state.rows)) 0 0
unfolding step tick due_to causes first_cause one_of
tick_counts m c w = (counts ((m.environment.counter + 1) % counter_span) m.rows task_limit 1 0 m.rows (λ t h. refl)).holds
    ∙ (ap (λ n. finished E_OK n 0 0) (zero-add _) ∙ ap (λ (l : List WaitEnd). finished E_OK (length l) 0 0) (sym (ended_waits_are_due m (numbered 0 c) w).all_as_due))

pub tick_counts_ends : TickCountsEnds
tick_counts_ends m c w h =
    subst (λ n. (step m (numbered n c)).answer ≡ finished E_OK (length (ended_waits m.rows (step m (numbered n c)).state.rows)) 0 0) (sym (eqb→eq c.number 0 h)) (tick_counts m c w)
