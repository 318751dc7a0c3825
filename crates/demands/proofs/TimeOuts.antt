-- A wait times out in the tick that is due: what goes on in every record of a run goes on in the definition's run, and there the claim is proved (crate model).
use mathlib.Core.Path.{◌≡◌, sym, ◌∙◌, ap, subst}
use mathlib.Core.List.{List, map}
use Prim.Native.Nat.{ℕ, suc}
use lib.Dec.{T, eqb, eqb→eq}
use mir.Facts.{and_yes}
use Rattle.rows.specs.Runs.{Run, no_call, one_call}
use Rattle.model.specs.Rows.{Model}
use Rattle.model.specs.Step.{step}
use Rattle.model.specs.Answers.{is_wait}
use Rattle.model.specs.Endings.{ended_with, due_to, GoesOn, EndsInTick, BeginsWithTmout}
use Rattle.model.specs.Engine.{Engine, Lawful}
use Rattle.model.proofs.Endings.{ended_waits_are_due}
use Rattle.model.proofs.TimeOuts.{no_wait_outlives_time_out, last_tick_ends_wait, tmout_0_begins_no_wait, no_wait_outlives_tmout, tick_after_tmout_ends_wait, end_tick_not_reached}
use Rattle.record.specs.Step.{state_engine}
use Rattle.record.proofs.Equal.{state_lawful}
use Rattle.demands.specs.Runs.{Interface, by_value}
use Rattle.demands.specs.TimeOuts.{WaitsThroughout, TimesOutInTick, BeginsWithTmoutBy, TimeOutsKept}
use Rattle.demands.proofs.Runs.{follows, Faithful, by_value_faithful, run_follows}
use Rattle.demands.proofs.Waiting.{begins_as_defined}

module _ {S C A : Type 0} {E : Engine S} {F : Interface S C A} (faithful : Faithful E F) where
  goes_on : (t : ℕ) {s last : S} {calls : List C} {answers : List A} → E.Sound s → (run : Run F.Steps s calls last answers) → WaitsThroughout E t run
      → GoesOn t (E.abs s) (map F.call_of calls)
  unfolding WaitsThroughout GoesOn
  goes_on t sound no_call w = w
  goes_on t sound (one_call {calls = calls} h rest) w =
      let f = follows (faithful.steps h).stepped sound in
      (w.0, subst (λ m. GoesOn t m (map F.call_of calls)) f.meaning_is (goes_on t f.sound rest w.1))

  -- A wait that begins in the answer's numbers begins in the definition's answer, and is the caller's.
  begins_step : {s after : S} {c : C} {answer : A} {t n : ℕ} → E.Sound s → F.Steps s c after answer → BeginsWithTmoutBy (F.call_of c) (F.values_of answer) t n
      → BeginsWithTmout (E.abs s) (F.call_of c) n × (t ≡ (F.call_of c).caller)
  begins_step {s} {c = c} {t = t} sound h b =
      let own = (F.call_of c).caller in
      let begun = and_yes (is_wait (step (E.abs s) (F.call_of c)).answer.outcome) (eqb t own) (subst T (begins_as_defined faithful sound h t) b.begins) in
      (record { waits = begun.0; timed = b.timed; tmout_is = b.tmout_is }, eqb→eq t own begun.1)

  -- What ends in a tick of the definition's run ends in the tick of the records'.
  times_out : (lawful : Lawful E) (s : S) (t k : ℕ) → E.Sound s → EndsInTick t (E.abs s) k → TimesOutInTick E F s t k
  times_out lawful s t k sound ends calls last answers run w c is_tick after answer h =
      let f = run_follows faithful sound run in
      let next = follows (faithful.steps h).stepped f.sound in
      ap (λ (m : Model). ended_with (E.abs last).rows m.rows t) next.meaning_is
      ∙ ((ended_waits_are_due (E.abs last) (F.call_of c) (lawful.well_formed last f.sound)).as_due t
      ∙ (ap (λ m. due_to m (F.call_of c) t) f.meaning_is ∙ ends (map F.call_of calls) (goes_on t sound run w) (F.call_of c) is_tick))

pub time_outs_kept : {S C A : Type 0} {E : Engine S} → Lawful E → {F : Interface S C A} → Faithful E F → TimeOutsKept E F
time_outs_kept {E = E} lawful {F = F} faithful = record {
  none_outlives = λ s sound t tick e calls last answers run k w.
      no_wait_outlives_time_out (E.abs s) t tick (lawful.well_formed s sound) e (map F.call_of calls) k (goes_on faithful t sound run w);
  last_tick_ends = λ s sound t tick e. times_out faithful lawful s t _ sound (last_tick_ends_wait (E.abs s) t tick (lawful.well_formed s sound) e);
  none_with_tmout_0 = λ s sound c after answer h t b. tmout_0_begins_no_wait (E.abs s) (F.call_of c) (begins_step faithful sound h b).0;
  none_outlives_tmout = λ s sound c after answer h t n b calls last answers run k w.
      let f = follows (faithful.steps h).stepped sound in
      let begun = begins_step faithful sound h b in
      let on : GoesOn (F.call_of c).caller (step (E.abs s) (F.call_of c)).state (map F.call_of calls) =
      subst (λ i. GoesOn i (step (E.abs s) (F.call_of c)).state (map F.call_of calls)) begun.1
      (subst (λ m. GoesOn t m (map F.call_of calls)) f.meaning_is (goes_on faithful t f.sound run w)) in
      no_wait_outlives_tmout (E.abs s) (F.call_of c) n (lawful.well_formed s sound) begun.0 (map F.call_of calls) k on;
  tick_after_tmout_ends = λ s sound c after answer h t n b.
      let f = follows (faithful.steps h).stepped sound in
      let begun = begins_step faithful sound h b in
      times_out faithful lawful after t (suc n) f.sound
      (subst (λ m. EndsInTick t m (suc n)) (sym f.meaning_is)
      (subst (λ i. EndsInTick i (step (E.abs s) (F.call_of c)).state (suc n)) (sym begun.1)
      (tick_after_tmout_ends_wait (E.abs s) (F.call_of c) n (lawful.well_formed s sound) begun.0)));
  end_tick_ahead = λ s sound calls last answers run t. end_tick_not_reached (E.abs last) t (lawful.well_formed last (run_follows faithful sound run).sound);
}

pub states_keep_time_outs : TimeOutsKept state_engine (by_value state_engine)
states_keep_time_outs = time_outs_kept state_lawful (by_value_faithful state_engine)
