-- What follows from what is decoded: by the cases of `not_run`.
use mathlib.Core.Path.{◌≡◌, refl, sym, ◌∙◌, ap, subst}
use mathlib.Core.Bool.{Bool, true, false, not, cond}
use mathlib.Core.List.{List}
use Prim.Native.Nat.{ℕ, ◌-◌}
use native.Mathlib.Omega.{arith}
use lib.Dec.{T, eqb}
use lib.IntN.{pos}
use borrow.Author.Tests.{eqb-true, eqb-false}
use Rattle.std.specs.Prelude.{Option, Some, None}
use Rattle.recording.specs.Recording.{word, signed, recorded_kind, recorded_call, recorded_values, not_run}
use Rattle.recording.specs.Decoded.{outcome_of, recorded_answer, kind_of, code_or_place_of, values_of, decoded}
use Rattle.recording.specs.declared.RecordedOutcome.{RecordedOutcome}
use Rattle.recording.specs.declared.RecordedOutcome.TheVariants.{Finished, Waits, Unknown}
use Rattle.recording.specs.declared.Run.{Run}

runs : Option Run → Bool
runs None = false
runs (Some run) = true

run_in : Run → Option Run → Run
run_in x None = x
run_in x (Some run) = run

abbrev the_run : List ℕ → Run
the_run bytes = record { call = recorded_call bytes; recorded = recorded_answer bytes }

-- The outcome goes by the kind: it has the kind's number, whatever that is, and what stands for it.
outcome_is : (kind said : ℕ) → let x = outcome_of kind said in (kind_of x ≡ kind) × (code_or_place_of x ≡ cond (eqb kind 0) (signed said) (pos said))
outcome_is kind said = go (eqb kind 0) (eqb kind 1) refl refl
  where
    go : (b d : Bool) → eqb kind 0 ≡ b → eqb kind 1 ≡ d
        → let x = cond {A = RecordedOutcome} b (Finished (signed said)) (cond d (Waits said) (Unknown (kind - 2) said)) in
        (kind_of x ≡ kind) × (code_or_place_of x ≡ cond b (signed said) (pos said))
    go true d e f = (sym (eqb-true kind 0 e), refl)
    go false true e f = (sym (eqb-true kind 1 f), refl)
    go false false e f = (let some = eqb-false kind 0 e in let more = eqb-false kind 1 f in omega arith, refl)

-- What is kept of a record's answer is what was recorded, of every record.
pub values_are : (bytes : List ℕ) → values_of (recorded_answer bytes) ≡ recorded_values bytes
unfolding recorded_values
values_are bytes =
    let (kind_is, outcome) = outcome_is (recorded_kind bytes) (word bytes 20) in
    let x = recorded_answer bytes in
    λ i. record { kind = kind_is i; code_or_place = outcome i; a = x.a; b = x.b; c = x.c }

pub decoded_not_run : (bytes : List ℕ) → decoded bytes ≡ None → T (not_run bytes)
unfolding decoded runs
decoded_not_run bytes e = go (not_run bytes) e
  where
    go : (b : Bool) → cond {A = Option Run} b None (Some (the_run bytes)) ≡ None → T b
    go true e = tt
    go false e = absurd (subst T (ap runs e) tt)

pub record WasRun (bytes : List ℕ) (run : Run) : Type 0 where
  pub is_run : T (not (not_run bytes))
  pub call_is : recorded_call bytes ≡ run.call
  pub recorded_is : recorded_values bytes ≡ values_of run.recorded

pub decoded_run : (bytes : List ℕ) {run : Run} → decoded bytes ≡ Some run → WasRun bytes run
unfolding decoded runs run_in
decoded_run bytes {run} e = go (not_run bytes) refl e
  where
    go : (b : Bool) → not_run bytes ≡ b → cond {A = Option Run} b None (Some (the_run bytes)) ≡ Some run → WasRun bytes run
    go true q e = absurd (subst T (ap runs (sym e)) tt)
    go false q e =
        let run_is = ap (run_in run) e in
        record { is_run = rw q tt; call_is = ap (λ (x : Run). x.call) run_is; recorded_is = sym (values_are bytes) ∙ ap (λ (x : Run). values_of x.recorded) run_is }
