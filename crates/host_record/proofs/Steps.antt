-- The parts of a call on a host's record make up a step of it, as of the state that it holds: by whether the decision changes anything.
use mathlib.Core.Path.{◌≡◌, refl, sym, ◌∙◌, subst}
use mathlib.Core.Bool.{not}
use Prim.Native.Nat.{ℕ}
use lib.Dec.{T}
use Rattle.model.specs.Rows.{Model}
use Rattle.model.specs.WellFormed.{WellFormed}
use Rattle.model.specs.declared.Code.{Code}
use Rattle.decide.specs.Decisions.{after}
use Rattle.decide.specs.Touches.{Covers, SameTask, changed_by}
use Rattle.decide.specs.declared.Decision.{Decision}
use Rattle.decide.specs.declared.Decision.TheVariants.{Refuse}
use Rattle.host_calls.specs.Calls.{call_of, answer_of}
use Rattle.host_calls.specs.declared.HostAnswer.{HostAnswer}
use Rattle.host_calls.specs.declared.HostCall.{HostCall}
use Rattle.record.specs.declared.State.{State}
use Rattle.record.specs.declared.Step.{Step}
use Rattle.record.specs.Meaning.{abs}
use Rattle.record.specs.Step.{Stepped}
use Rattle.kernel.specs.Steps.{Judged, Applied}
use Rattle.kernel.proofs.Outcomes.{stepped}
use Rattle.kernel.proofs.Arms.{nothing_done}
use Rattle.host_record.specs.declared.HostRecord.{HostRecord}
use Rattle.host_record.specs.Record.{state_of}
use Rattle.host_record.specs.Step.{HostStepped, CallJudged, Said, Stored}
use Rattle.host_record.proofs.Record.{written_means, written_readable}

module _ (lent : HostRecord) {s : State} (s_is : s ≡ state_of lent) (c : HostCall) {d : Decision} (h : CallJudged s c d) where
  -- What was judged of the state is so of the state that the record holds.
  judged : Judged (state_of lent) (call_of c) d
  judged = subst (λ (u : State). Judged u (call_of c) d) s_is h

  no_refusal : T (changed_by d) → {code : Code} → d ≡ Refuse code → ⊥
  no_refusal t e = subst (λ (x : Decision). T (changed_by x)) e t

  -- ── Nothing changed ──

  module _ (still : T (not (changed_by d))) where
    -- The step of the state that hands it back.
    of_state : Stepped (state_of lent) (call_of c) (record { state = state_of lent; answer = (after (abs (state_of lent)) d).answer })
    of_state = stepped (nothing_done d still refl) judged

    pub stays : {given : HostAnswer} → Said d given → HostStepped lent c lent given
    stays e = record {
      answer = (after (abs (state_of lent)) d).answer;
      stepped = record {
        unknown = λ l. record { state_is = refl; finished_with = (of_state.unknown l).finished_with };
        unsound = λ l f. record { state_is = refl; finished_with = (of_state.unsound l f).finished_with };
        sound = λ l S.
            let f = of_state.sound l S in
            record { answer_is = f.answer_is; values_are = f.values_are; meaning_is = f.meaning_is; sound = f.sound; unchanged = λ _ _. refl };
      };
      given_is = e still (abs (state_of lent));
    }

  -- ── Something changed ──

  module _ (moves : T (changed_by d)) {x : Step} (applied : Applied s d x) {r : HostRecord} (w : Stored lent x d r) where
    a : Applied (state_of lent) d x
    a = subst (λ (u : State). Applied u d x) s_is applied

    untouched : (t : ℕ) → (Covers w.touched t → ⊥) → SameTask (abs (state_of lent)) (abs x.state) t
    untouched t n = subst (λ (u : Model). SameTask (abs (state_of lent)) u t) (sym a.meaning_is) (w.touches (abs (state_of lent)) judged.appliable.ready t n)

    pub moved : {given : HostAnswer} → given ≡ answer_of x.answer → HostStepped lent c r given
    moved e = record {
      answer = x.answer;
      stepped = record {
        unknown = λ l. absurd (no_refusal moves (judged.unknown l));
        unsound = λ l f. absurd (no_refusal moves (judged.unsound l f));
        sound = λ l S.
            let f = (stepped a judged).sound l S in
            let means = written_means w.written untouched in
            record {
              answer_is = f.answer_is;
              values_are = f.values_are;
              meaning_is = means ∙ f.meaning_is;
              sound = record { readable = written_readable w.written untouched f.sound.readable; well_formed = subst WellFormed (sym means) f.sound.well_formed };
              unchanged = λ n u. absurd (no_refusal moves ((judged.sound l S).refuses n u));
            };
      };
      given_is = e;
    }
