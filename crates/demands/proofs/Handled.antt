-- Demand 1: the table's first row that applies, read off the table; what the tick answers, from the definition (crate model).
use mathlib.Core.Path.{◌≡◌, sym, ◌∙◌, ap, subst}
use mathlib.Core.Bool.{Bool, true, false, not, cond, ◌||◌}
use mathlib.Core.List.{List}
use mathlib.Core.Logic.{◌≢◌}
use Prim.Native.Nat.{◌≤◌}
use lib.Dec.{T}
use lib.ListN.{length}
use mir.Facts.{no_ltb}
use Rattle.lists.specs.Lists.{Each, none, both, every}
use Rattle.lists.proofs.Each.{each_of_every}
use Rattle.rows.specs.Program as Program
use Rattle.model.specs.Sizes.{call_limit}
use Rattle.model.specs.Rows.{Model}
use Rattle.model.specs.Codes.{values, finished}
use Rattle.model.specs.Calls.{is_tick, fetches, View}
use Rattle.model.specs.Errors.{unknown, caller_cannot_call, ErrorRow, rows_to_step_4, rows_from_step_5, error_table, some_applies, first_that_applies, refused, refusal}
use Rattle.model.specs.Refusals.{NoError}
use Rattle.model.specs.Endings.{ended_waits}
use Rattle.model.specs.Engine.{Engine, Lawful, RefusedWith, Stepped}
use Rattle.model.specs.declared.Answer.{Answer}
use Rattle.model.specs.declared.Call.{Call}
use Rattle.model.specs.declared.Code.{Code}
use Rattle.model.specs.declared.Code.TheVariants.{Ok as E_OK, Sys as E_SYS}
use Rattle.model.specs.declared.Outcome.{Outcome}
use Rattle.model.specs.declared.Outcome.TheVariants.{Finished, Waits}
use Rattle.model.proofs.Tests.{or_left, or_right}
use Rattle.model.proofs.Choices.{cond_yes, cond_no}
use Rattle.model.proofs.Refusals.{refusals}
use Rattle.model.proofs.Endings.{tick_counts_ends}
use Rattle.record.specs.Step.{state_engine}
use Rattle.record.proofs.Equal.{state_lawful}
use Rattle.record.proofs.Rows.{passes_or_not}
use Rattle.demands.specs.Handled.{is_error, view_in, Handled}
use Rattle.demands.proofs.Runs.{follows}

-- ── The table ──

-- The codes of the rows are errors, so that of the first that applies is one.
first_is_error : {rows : List ErrorRow} → Each (λ row. T (is_error row.code)) rows → T (some_applies rows) → T (is_error (first_that_applies rows))
unfolding some_applies first_that_applies
first_is_error none t = absurd t
first_is_error (both {x = row} {xs = rows} e es) t = go row.applies (λ u. first_is_error es u) t
  where
    go : (b : Bool) → (T (some_applies rows) → T (is_error (first_that_applies rows))) → T (b || some_applies rows) → T (is_error (cond b row.code (first_that_applies rows)))
    go true later u = e
    go false later u = later u

module _ (v : View) (c : Call) where
  pub refusal_is_error : T (refused v c) → T (is_error (refusal v c))
  unfolding refused refusal error_table rows_to_step_4 rows_from_step_5 every
  refusal_is_error t = first_is_error (each_of_every (λ row. is_error row.code) (error_table v c) tt) t

  -- A known number, and a caller that can't call: the second row is the first that applies.
  known : c.number ≤ call_limit → T (not (unknown c))
  unfolding unknown
  known high = no_ltb high

  caller_refused : T (caller_cannot_call v.caller c) → T (refused v c)
  unfolding refused error_table rows_to_step_4 some_applies
  caller_refused t = or_right (unknown c) _ (or_left (caller_cannot_call v.caller c) _ t)

  caller_refusal : T (not (unknown c)) → T (caller_cannot_call v.caller c) → refusal v c ≡ E_SYS
  unfolding refusal error_table rows_to_step_4 first_that_applies
  caller_refusal k t = cond_no (unknown c) _ _ k ∙ cond_yes (caller_cannot_call v.caller c) _ _ t

-- ── Every call ──

module _ {S : Type 0} {E : Engine S} {s after : S} {c : Call} {answer : Answer} (h : Stepped E s c after answer) (sound : E.Sound s) where
  pub refused_step : T (not (is_tick c)) → T (refused (view_in E s c) c) → RefusedWith (refusal (view_in E s c) c) s after answer
  refused_step not_tick t =
      let f = follows h sound in
      let given : answer ≡ finished (refusal (view_in E s c) c) 0 0 0 = f.answer_is ∙ ap (λ (o : Program.Result Model Answer). o.answer) ((refusals (E.abs s) c not_tick).by_row t) in
      record { state_is = f.unchanged not_tick t; finished_with = record { answer_is = given; values_are = ap values given } }

  tick_step : Lawful E → T (is_tick c) → answer ≡ finished E_OK (length (ended_waits (E.abs s).rows (E.abs after).rows)) 0 0
  tick_step laws e =
      let f = follows h sound in
      f.answer_is ∙ (tick_counts_ends (E.abs s) c (laws.well_formed s sound) e
      ∙ ap (λ (m : Model). finished E_OK (length (ended_waits (E.abs s).rows m.rows)) 0 0) (sym f.meaning_is))

  pub no_error : T (not (is_tick c)) → T (not (fetches c)) → T (not (refused (view_in E s c) c)) → NoError answer.outcome
  no_error not_tick other t = rw (follows h sound).answer_is ((refusals (E.abs s) c not_tick).else_no_error t other)

  -- Where no row applies there is no error, and the tick answers none.
  other_step : Lawful E → T (not (fetches c)) → (code : Code) → answer.outcome ≡ Finished code → code ≢ E_OK → RefusedWith code s after answer × T (is_error code)
  other_step laws other code e fault = passes_or_not (is_tick c)
      (λ tick. absurd (fault (ok code e (ap (λ (x : Answer). x.outcome) (tick_step laws tick)))))
      (λ call. passes_or_not (refused v c) (by_row call) (λ t. absurd (fault (ok_code code answer.outcome e (no_error call other t)))))
    where
      v : View
      v = view_in E s c

      ok : (code : Code) → answer.outcome ≡ Finished code → answer.outcome ≡ Finished E_OK → code ≡ E_OK
      ok code e f = cc

      ok_code : (code : Code) (x : Outcome) → x ≡ Finished code → NoError x → code ≡ E_OK
      ok_code code (Finished d) e f = cc
      ok_code code (Waits place) e f = cc

      by_row : T (not (is_tick c)) → T (refused v c) → RefusedWith code s after answer × T (is_error code)
      by_row low t =
          let step = refused_step low t in
          let same : refusal v c ≡ code = cc (ap (λ (x : Answer). x.outcome) step.finished_with.answer_is) in
          subst (λ d. RefusedWith d s after answer × T (is_error d)) same (step, refusal_is_error v c t)

pub handled : {S : Type 0} (E : Engine S) → Lawful E → Handled E
handled E laws s c after answer h = record {
  unknown_number = h.unknown;
  not_sound = h.unsound;
  cannot_call = λ sound low high t.
      let v = view_in E s c in
      subst (λ code. RefusedWith code s after answer) (caller_refusal v c (known v c high) t) (refused_step h sound low (caller_refused v c t));
  refused_by_row = λ sound low t. (refused_step h sound low t, refusal_is_error (view_in E s c) c t);
  no_other_refusal = λ sound other code e fault. other_step h sound laws other code e fault;
  tick_accepted = λ sound e. let given = tick_step h sound laws e in record { answer_is = given; values_are = ap values given };
  stays_sound = λ sound. (follows h sound).sound;
}

pub states_handled : Handled state_engine
states_handled = handled state_engine state_lawful
