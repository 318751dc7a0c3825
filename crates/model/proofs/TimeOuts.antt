-- A wait ends in the last tick that is left to it, at the latest: a wait that goes on keeps its row, so its end tick, and each tick leaves it one tick less. By
-- induction on the calls.
use mathlib.Core.Path.{◌≡◌, refl, sym, ◌∙◌, ap, subst}
use mathlib.Core.Bool.{Bool, true, false, not, cond, ◌&&◌}
use mathlib.Core.List.{List, [], ◌∷◌}
use mathlib.Core.Option.{Option, none, some}
use Prim.Native.Nat.{ℕ, suc, ◌+◌, ◌%◌, ◌<◌, ◌≤◌}
use native.Mathlib.Omega.{arith}
use lib.Dec.{T, not_T, eqb, eqb→eq, eqb_refl}
use mir.Facts.{yes_and}
use Rattle.lists.specs.Lists.{one_of}
use Rattle.lists.proofs.Tests.{is_map, is_eqb, same_test}
use Rattle.rows.specs.Runs.{end}
use Rattle.model.specs.Sizes.{tmout_limit, counter_span}
use Rattle.model.specs.Rows.{task, TaskRow, Model}
use Rattle.model.specs.Calls.{Call, polls_by_name, has_tmout}
use Rattle.model.specs.Waits.{Never, At, able, wait_end, end_of, due}
use Rattle.model.specs.Errors.{is_zero, polls}
use Rattle.model.specs.Step.{step}
use Rattle.model.specs.WellFormed.{ticks_left, TickAhead, EndAhead, WellFormed}
use Rattle.model.specs.Endings.{CodeAndWord, timed_out, is_waiting, causes, first_cause, due_to, row_after, ticks, GoesOn, EndsInTick, BeginsWithTmout, Tmout0BeginsNoWait}
use Rattle.model.specs.Endings.{SameWaitGoesOn, NoWaitOutlivesTimeOut, LastTickEndsWait, NoWaitOutlivesTmout, TickAfterTmoutEndsWait, EndTickNotReached}
use Rattle.model.specs.Answers.{is_wait}
use Rattle.model.proofs.Tests.{or_right}
use Rattle.model.proofs.Step.{numbered}
use Rattle.model.proofs.Checked.{tmout_size}
use Rattle.model.proofs.Answers.{polls_never_wait}
use Rattle.model.proofs.Choices.{cond_yes}
use Rattle.model.proofs.KeptEnds.{counter_kept, counter_moved, begun_with, begun_passes}
use Rattle.model.proofs.WellFormed.{kept_well_formed}
use Rattle.model.proofs.Endings.{waits_end_as_due}

-- A task that waits before a step and after it keeps its row.
still : (m : Model) (c : Call) (t : ℕ) → WellFormed m → T (is_waiting m.rows t) → T (is_waiting (step m c).state.rows t) → row_after m c t ≡ m.rows (task t)
still m c t w before after = go (due_to m c t) refl
  where
    go : (g : Option CodeAndWord) → due_to m c t ≡ g → row_after m c t ≡ m.rows (task t)
    go none e = (waits_end_as_due m c t w).goes_on before e
    go (some d) e = absurd (subst (λ (x : TaskRow). T (not (able x.wait))) ((waits_end_as_due m c t w).ends d before e) after)

waits_at_first : (t : ℕ) (m : Model) (cs : List Call) → GoesOn t m cs → T (is_waiting m.rows t)
unfolding GoesOn
waits_at_first t m [] g = g
waits_at_first t m (c ∷ cs) g = g.0

pub same_wait_goes_on : SameWaitGoesOn
unfolding GoesOn end
same_wait_goes_on m t w [] g = refl
same_wait_goes_on m t w (c ∷ cs) g = same_wait_goes_on (step m c).state t (kept_well_formed m c w) cs g.1 ∙ still m c t w g.0 (waits_at_first t (step m c).state cs g.1)

-- Its end tick stays.
end_kept : (m : Model) (c : Call) (t end : ℕ) → WellFormed m → wait_end (m.rows (task t)).wait ≡ At end → (cs : List Call) → GoesOn t m (c ∷ cs)
    → wait_end (row_after m c t).wait ≡ At end
unfolding GoesOn
end_kept m c t end w e cs g = ap (λ (x : TaskRow). wait_end x.wait) (still m c t w g.0 (waits_at_first t (step m c).state cs g.1)) ∙ e

-- ── The counter ──

-- A tick leaves one tick less.
one_less : (counter end n : ℕ) → counter < counter_span → TickAhead counter end → ticks_left counter end ≤ suc n → ticks_left ((counter + 1) % counter_span) end ≤ n
one_less counter end n inside h k = let a = h.in_range in let b = h.not_sooner in omega arith

end_ahead : (m : Model) (t end : ℕ) → WellFormed m → wait_end (m.rows (task t)).wait ≡ At end → TickAhead m.environment.counter end
end_ahead m t end w e = subst (EndAhead m.environment.counter) e (w.ends t)

pub no_wait_outlives_time_out : NoWaitOutlivesTimeOut
unfolding ticks GoesOn
no_wait_outlives_time_out m t end w e [] k g = let a = (end_ahead m t end w e).not_sooner in omega arith
no_wait_outlives_time_out m t end w e (c ∷ cs) k g = go (eqb c.number 0) (λ h. h) (λ h. h) k
    (λ k'. no_wait_outlives_time_out (step m c).state t end (kept_well_formed m c w) (end_kept m c t end w e cs g) cs k' g.1)
  where
    go : (b : Bool) → (T b → T (eqb c.number 0)) → (T (not b) → T (not (eqb c.number 0))) → ticks_left m.environment.counter end ≤ cond b (suc (ticks cs)) (ticks cs)
        → (ticks_left (step m c).state.environment.counter end ≤ ticks cs → ⊥) → ⊥
    go true is_tick is_call k' rest = rest (rw (counter_moved m c (is_tick tt)) (one_less m.environment.counter end (ticks cs) w.counter_in_range (end_ahead m t end w e) k'))
    go false is_tick is_call k' rest = rest (rw (counter_kept m c (is_call tt)) k')

-- ── The tick that ends it ──

-- What is due in a tick.
due_in_tick : (m : Model) (c : Call) (t : ℕ)
    → due_to m (numbered 0 c) t ≡ cond (due ((m.environment.counter + 1) % counter_span) (wait_end (m.rows (task t)).wait)) (some timed_out) none
unfolding due_to causes first_cause one_of
due_in_tick m c t = refl

-- A tick comes to the end tick exactly where one tick is left;
last_one : (counter end : ℕ) → counter < counter_span → TickAhead counter end → eqb end ((counter + 1) % counter_span) ≡ eqb 1 (ticks_left counter end)
last_one counter end inside h =
    let a = h.in_range in
    same_test (is_eqb end ((counter + 1) % counter_span)) (is_map (λ e. omega arith) (λ e. omega arith) (is_eqb 1 (ticks_left counter end)))

-- and to leave one tick more before it is to count one tick more.
one_more : (counter end n : ℕ) → counter < counter_span → TickAhead counter end → eqb n (ticks_left ((counter + 1) % counter_span) end) ≡ eqb (suc n) (ticks_left counter end)
one_more counter end n inside h =
    let a = h.in_range in
    let b = h.not_sooner in
    same_test (is_eqb n (ticks_left ((counter + 1) % counter_span) end)) (is_map (λ e. omega arith) (λ e. omega arith) (is_eqb (suc n) (ticks_left counter end)))

pub last_tick_ends_wait : LastTickEndsWait
unfolding ticks GoesOn end
last_tick_ends_wait m t tick w e [] g c h =
    subst (λ n. due_to m (numbered n c) t ≡ cond (eqb 1 (ticks_left m.environment.counter tick)) (some timed_out) none) (sym (eqb→eq c.number 0 h))
    (due_in_tick m c t ∙ (ap (λ v. cond (due ((m.environment.counter + 1) % counter_span) v) (some timed_out) none) e
    ∙ ap (λ b. cond b (some timed_out) none) (last_one m.environment.counter tick w.counter_in_range (end_ahead m t tick w e))))
last_tick_ends_wait m t tick w e (c ∷ cs) g d h =
    last_tick_ends_wait (step m c).state t tick (kept_well_formed m c w) (end_kept m c t tick w e cs g) cs g.1 d h
    ∙ ap (λ b. cond b (some timed_out) none) (go (eqb c.number 0) (λ k. k) (λ k. k))
  where
    go : (b : Bool) → (T b → T (eqb c.number 0)) → (T (not b) → T (not (eqb c.number 0)))
        → eqb (suc (ticks cs)) (ticks_left (step m c).state.environment.counter tick) ≡ eqb (suc (cond b (suc (ticks cs)) (ticks cs))) (ticks_left m.environment.counter tick)
    go true is_tick is_call = rw (counter_moved m c (is_tick tt)) (one_more m.environment.counter tick (suc (ticks cs)) w.counter_in_range (end_ahead m t tick w e))
    go false is_tick is_call = rw (counter_kept m c (is_call tt)) refl

-- ── A wait begun with a tmout ──

no_tick : (n : ℕ) → n ≡ 0 → T (one_of n (6 ∷ 10 ∷ 17 ∷ [])) → ⊥
unfolding one_of
no_tick n e h = rw e at h

pub tmout_0_begins_no_wait : Tmout0BeginsNoWait
unfolding polls
tmout_0_begins_no_wait m c b =
    let zero : T (is_zero c.tmout) = rw b.tmout_is tt in
    subst T (polls_never_wait m c (or_right (polls_by_name c) (has_tmout c && is_zero c.tmout) (yes_and (has_tmout c) (is_zero c.tmout) b.timed zero))) b.waits

module _ {m : Model} {c : Call} {n : ℕ} (w : WellFormed m) (b : BeginsWithTmout m c n) where
  end_begun : wait_end ((step m c).state.rows (task c.caller)).wait ≡ At ((m.environment.counter + n + 1) % counter_span)
  unfolding end_of
  end_begun =
      ap (λ (x : TaskRow). wait_end x.wait)
      ((waits_end_as_due m c c.caller w).begins (yes_and (is_wait (step m c).answer.outcome) (eqb c.caller c.caller) b.waits (eqb_refl c.caller))).1
      ∙ (begun_with m c ∙ (cond_yes (has_tmout c) (end_of m.environment.counter c.tmout) Never b.timed ∙ ap (end_of m.environment.counter) b.tmout_is))

  -- Then so many ticks are left to it.
  left_begun : ticks_left (step m c).state.environment.counter ((m.environment.counter + n + 1) % counter_span) ≡ suc n
  left_begun =
      let inside = w.counter_in_range in
      let low : n ≤ tmout_limit = tmout_size (begun_passes m c b.waits) b.timed n b.tmout_is in
      rw (counter_kept m c (not_T (eqb c.number 0) (λ t. no_tick c.number (eqb→eq c.number 0 t) b.timed))) (omega arith)

pub no_wait_outlives_tmout : NoWaitOutlivesTmout
no_wait_outlives_tmout m c n w b cs k g =
    no_wait_outlives_time_out (step m c).state c.caller _ (kept_well_formed m c w) (end_begun w b) cs (rw (left_begun w b) k) g

pub tick_after_tmout_ends_wait : TickAfterTmoutEndsWait
tick_after_tmout_ends_wait m c n w b =
    subst (EndsInTick c.caller (step m c).state) (left_begun w b) (last_tick_ends_wait (step m c).state c.caller _ (kept_well_formed m c w) (end_begun w b))

pub end_tick_not_reached : EndTickNotReached
end_tick_not_reached m t w e =
    let a = (end_ahead m t m.environment.counter w e).not_sooner in
    let inside = w.counter_in_range in
    omega arith
