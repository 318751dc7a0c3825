-- What `step` hands back is what it promises: by the judgement and what is done by it; what the definition keeps well-formed is sound.
use mathlib.Core.Path.{◌≡◌, refl, sym, ap, ◌∙◌, subst}
use Prim.Native.Nat.{◌<◌}
use native.Mathlib.Decide.{dec_lt}
use native.Mathlib.Omega.{arith}
use lib.Dec.{T}
use borrow.Author.Tests.{lt-ltb}
use mir.Facts.{no_eqb}
use Rattle.rows.specs.Program.{Result, run}
use Rattle.model.specs.Sizes.{call_limit}
use Rattle.model.specs.Rows.{Model}
use Rattle.model.specs.Codes.{values, finished}
use Rattle.model.specs.Calls.{View, view_of}
use Rattle.model.specs.Errors.{unknown, rows_to_step_4, error_table, some_applies, first_that_applies, refused, refusal}
use Rattle.model.specs.Step.{step}
use Rattle.model.specs.WellFormed.{WellFormed}
use Rattle.model.specs.declared.Answer.{Answer}
use Rattle.model.specs.declared.Call.{Call}
use Rattle.model.specs.declared.Code.{Code}
use Rattle.model.specs.declared.Code.TheVariants.{Par as E_PAR}
use Rattle.model.proofs.WellFormed.{kept_well_formed}
use Rattle.decide.specs.Decisions.{ran, after, Decided}
use Rattle.decide.specs.declared.Decision.{Decision}
use Rattle.decide.specs.declared.Decision.TheVariants.{Refuse}
use Rattle.record.specs.declared.State.{State}
use Rattle.record.specs.declared.Step.{Step}
use Rattle.record.specs.Meaning.{abs}
use Rattle.record.specs.Sound.{Readable, Sound}
use Rattle.record.specs.Step.{refusal_of, Follows, Stepped}
use Rattle.record.proofs.Laws.{refused_with}
use Rattle.kernel.specs.Steps.{Judged, Appliable, Applied}

-- A record that means what the definition leaves is sound, if rows can be read from it.
pub kept_sound : {s u : State} (c : Call) → Sound s → Readable u → abs u ≡ (step (abs s) c).state → Sound u
kept_sound {s} c S readable e = record { readable = readable; well_formed = subst WellFormed (sym e) (kept_well_formed (abs s) c S.well_formed) }

-- Step 0 of the error table refuses an unknown number.
unknown_refused : (v : View) (c : Call) → call_limit < c.number → T (refused v c) × (refusal v c ≡ E_PAR)
unfolding refused refusal error_table rows_to_step_4 some_applies first_that_applies unknown
unknown_refused v c h = rw (lt-ltb call_limit c.number h) (tt, refl)

module _ {s : State} {d : Decision} where
  -- A decision of the judgement can be applied.
  pub refusal_appliable : {code : Code} → d ≡ Refuse code → Appliable s d
  refusal_appliable e = rw e (record { sound = λ t. absurd t; ready = tt })

  pub decided_appliable : {c : Call} → Sound s → Decided (abs s) c d → Appliable s d
  decided_appliable S h = record { sound = λ t. S; ready = h.ready }

  -- What is decided on a sound record is its judgement.
  pub sound_judged : {c : Call} → Sound s → Decided (abs s) c d → Judged s c d
  sound_judged {c} S h = record {
    unknown = λ n.
        let u = unknown_refused (view_of (abs s) c) c n in
        h.refuses (no_eqb {a = c.number} {b = 0} (λ z. omega (arith, n, z))) u.0 ∙ ap Refuse u.1;
    unsound = λ l f. absurd (f S);
    sound = λ l T. h;
    appliable = decided_appliable S h;
  }

  module _ {r : Step} (a : Applied s d r) where
    -- A refusal hands back the very record with its code.
    refuses : {code : Code} → d ≡ Refuse code → r ≡ refusal_of code s
    unfolding ran run
    refuses {code} e =
        let state : r.state ≡ s = a.unchanged (rw e tt) in
        let answer : r.answer ≡ finished code 0 0 0 = a.answer_is ∙ ap (λ x. (after (abs s) x).answer) e in
        λ i. record { state = state i; answer = answer i }

    module _ {c : Call} where
      follows : Sound s → Decided (abs s) c d → Follows s c r
      follows S h =
          let meaning : abs r.state ≡ (step (abs s) c).state = a.meaning_is ∙ ap (λ (o : Result Model Answer). o.state) (sym h.steps) in
          let answer : r.answer ≡ (step (abs s) c).answer = a.answer_is ∙ ap (λ (o : Result Model Answer). o.answer) (sym h.steps) in
          record {
            answer_is = answer;
            values_are = ap values answer;
            meaning_is = meaning;
            sound = kept_sound c S (a.readable S.readable) meaning;
            unchanged = λ n t. a.unchanged (rw (h.refuses n t) tt);
          }

      -- The whole step.
      pub stepped : Judged s c d → Stepped s c r
      stepped j = record {
        unknown = λ n. refused_with (refuses (j.unknown n));
        unsound = λ l f. refused_with (refuses (j.unsound l f));
        sound = λ l S. follows S (j.sound l S);
      }

-- A sound record stays sound, so the next call needs no test.
pub stays_sound : {s : State} (c : Call) {r : Step} → Stepped s c r → Sound s → Sound r.state
stays_sound c h S = elim (dec_lt call_limit c.number) [ yes above ↦ subst Sound (sym (h.unknown above).state_is) S | no known ↦ (h.sound (omega arith) S).sound ]
