-- Every call and the tick leave the end ticks of waits ahead: a wait goes on as it was, or is over, or begins with its end ahead.
use mathlib.Core.Path.{◌≡◌, refl, sym, ap, subst}
use mathlib.Core.Bool.{Bool, true, false, not, cond, ◌&&◌}
use mathlib.Core.Option.{Option, none, some}
use Prim.Native.Nat.{ℕ, ◌+◌, ◌%◌, ◌<◌}
use native.Mathlib.Omega.{arith}
use lib.Dec.{T, eqb}
use mir.Facts.{and_yes, eqb_no}
use Rattle.rows.specs.Program as Program
use Rattle.rows.specs.Program.{step_of}
use Rattle.model.specs.Sizes.{counter_span}
use Rattle.model.specs.Rows.{task, TaskRow, Model}
use Rattle.model.specs.Codes.{E_TMOUT}
use Rattle.model.specs.Calls.{Call, sends_for_room, receives_word, has_tmout, may_wait, word_of, view_of}
use Rattle.model.specs.Waits.{End, Never, At, Sending, Receiving, AtMailbox, wait_end, ended, end_of, due}
use Rattle.model.specs.Errors.{refused, would_wait}
use Rattle.model.specs.Tasks.{tick}
use Rattle.model.specs.Step.{step}
use Rattle.model.specs.WellFormed.{EndAhead, WellFormed}
use Rattle.model.specs.Answers.{is_wait}
use Rattle.model.specs.Endings.{CodeAndWord, due_to, row_after, wait_begins, begun_end, begun_wait, defines}
use Rattle.model.specs.declared.Answer.{Answer}
use Rattle.model.proofs.Step.{step_tick, step_call}
use Rattle.model.proofs.Accepted.{Passes, passes}
use Rattle.model.proofs.Checked.{wait_ends}
use Rattle.model.proofs.Answers.{waits_exactly}
use Rattle.model.proofs.DueCalls.{as_due, Begins, Defines}
use Rattle.model.proofs.Endings.{ticked_row, StepTurn, step_turn}

-- ── The counter ──

pub counter_kept : (m : Model) (c : Call) → T (not (eqb c.number 0)) → (step m c).state.environment.counter ≡ m.environment.counter
unfolding step_of
counter_kept m c h = ap (λ (o : Program.Result Model Answer). o.state.environment.counter) (step_call m c h)

pub counter_moved : (m : Model) (c : Call) → T (eqb c.number 0) → (step m c).state.environment.counter ≡ (m.environment.counter + 1) % counter_span
unfolding tick
counter_moved m c h = ap (λ (o : Program.Result Model Answer). o.state.environment.counter) (step_tick m c h)

-- ── The tick ──

-- An end that isn't due in the next tick is ahead of it.
not_yet_due : (counter : ℕ) (end : End) → counter < counter_span → EndAhead counter end → T (not (due ((counter + 1) % counter_span) end)) → EndAhead ((counter + 1) % counter_span) end
not_yet_due counter Never inside h n = tt
not_yet_due counter (At tick) inside h n =
    let a = h.in_range in
    let b = h.not_sooner in
    let c = h.not_later in
    let d = eqb_no {a = tick} {b = (counter + 1) % counter_span} n in
    record { in_range = a; not_sooner = omega arith; not_later = omega arith }

ticked_end : (m : Model) (t : ℕ) → WellFormed m → EndAhead ((m.environment.counter + 1) % counter_span) (wait_end ((tick m).state.rows (task t)).wait)
ticked_end m t w = rw (ticked_row m t w.rows) (go (due next (wait_end x.wait)) (not_yet_due m.environment.counter (wait_end x.wait) w.counter_in_range (w.ends t)))
  where
    next : ℕ
    next = (m.environment.counter + 1) % counter_span

    x : TaskRow
    x = m.rows (task t)

    go : (b : Bool) → (T (not b) → EndAhead next (wait_end x.wait)) → EndAhead next (wait_end (cond b (ended E_TMOUT 0 x) x).wait)
    go true h = tt
    go false h = h tt

-- ── A call ──

-- The wait that begins ends as the call says.
pub begun_with : (m : Model) (c : Call) → wait_end (begun_wait m c) ≡ begun_end m c
begun_with m c = go (sends_for_room c) (receives_word c)
  where
    go : (a b : Bool) → wait_end (cond a (Sending c.object (begun_end m c) (word_of c)) (cond b (Receiving c.object (begun_end m c)) (AtMailbox c.object (begun_end m c)))) ≡ begun_end m c
    go true b = refl
    go false true = refl
    go false false = refl

-- No row refuses a call that is answered "waits".
pub begun_passes : (m : Model) (c : Call) → T (is_wait (step m c).answer.outcome) → Passes (view_of m c) c
begun_passes m c h =
    let v = view_of m c in
    passes v c (and_yes (may_wait c) (not (refused v c)) (and_yes (may_wait c && not (refused v c)) (would_wait v c) (subst T (waits_exactly m c) h)).0).1

begun_ahead : (m : Model) (c : Call) → WellFormed m → T (is_wait (step m c).answer.outcome) → EndAhead m.environment.counter (begun_end m c)
begun_ahead m c w h = go (has_tmout c) (wait_ends (begun_passes m c h) m.environment.counter w.counter_in_range)
  where
    go : (b : Bool) → (T b → EndAhead m.environment.counter (end_of m.environment.counter c.tmout)) → EndAhead m.environment.counter (cond b (end_of m.environment.counter c.tmout) Never)
    go true k = k tt
    go false k = tt

called_end : (m : Model) (c : Call) (t : ℕ) → WellFormed m → EndAhead m.environment.counter (wait_end (row_after m c t).wait)
called_end m c t w = go (wait_begins m c t) (defines m c t) (λ h. h) turn.if_begins turn.if_defines turn.else_due
  where
    turn : StepTurn m c t
    turn = step_turn m c t w

    Ahead : TaskRow → Type 0
    Ahead x = EndAhead m.environment.counter (wait_end x.wait)

    left : (g : Option CodeAndWord) → Ahead (as_due g (m.rows (task t)))
    left none = w.ends t
    left (some e) = tt

    go : (b d : Bool) → (T b → T (wait_begins m c t)) → (T b → Begins (begun_wait m c) (m.rows (task t)) (row_after m c t)) → (T d → Defines c (m.rows (task t)) (row_after m c t))
        → (T (not b) → T (not d) → row_after m c t ≡ as_due (due_to m c t) (m.rows (task t))) → Ahead (row_after m c t)
    go true d is_begun begins defines' due' =
        let h = (and_yes (is_wait (step m c).answer.outcome) (eqb t c.caller) (is_begun tt)).0 in
        subst Ahead (sym (begins tt).started) (subst (EndAhead m.environment.counter) (sym (begun_with m c)) (begun_ahead m c w h))
    go false true is_begun begins defines' due' = subst Ahead (sym (defines' tt).new) tt
    go false false is_begun begins defines' due' = subst Ahead (sym (due' tt tt)) (left (due_to m c t))

pub kept_ends : (m : Model) (c : Call) (t : ℕ) → WellFormed m → EndAhead (step m c).state.environment.counter (wait_end (row_after m c t).wait)
unfolding tick
kept_ends m c t w = go (eqb c.number 0) (λ h. h) (λ h. h)
  where
    go : (b : Bool) → (T b → T (eqb c.number 0)) → (T (not b) → T (not (eqb c.number 0))) → EndAhead (step m c).state.environment.counter (wait_end (row_after m c t).wait)
    go true is_tick is_call =
        subst (λ (o : Program.Result Model Answer). EndAhead o.state.environment.counter (wait_end (o.state.rows (task t)).wait)) (sym (step_tick m c (is_tick tt))) (ticked_end m t w)
    go false is_tick is_call = rw (counter_kept m c (is_call tt)) (called_end m c t w)
