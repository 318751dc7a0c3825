-- Waits end as due: what holds of the definition's step (crate model) holds of the records, since a step follows the definition.
use mathlib.Core.Path.{◌≡◌, refl, sym, ◌∙◌, ap, subst}
use mathlib.Core.Bool.{not, ◌&&◌}
use Prim.Native.Nat.{ℕ}
use lib.Dec.{T, eqb}
use Rattle.model.specs.Rows.{task, Model}
use Rattle.model.specs.Codes.{kind, values}
use Rattle.model.specs.Step.{step}
use Rattle.model.specs.Answers.{is_wait}
use Rattle.model.specs.Endings.{ended_with, ended_waits, row_after, wait_begins}
use Rattle.model.specs.Engine.{Engine, Lawful, Stepped}
use Rattle.model.specs.declared.Answer.{Answer}
use Rattle.model.specs.declared.Call.{Call}
use Rattle.model.specs.declared.Outcome.{Outcome}
use Rattle.model.specs.declared.Outcome.TheVariants.{Finished, Waits}
use Rattle.model.proofs.Answers.{waits_exactly, places_in_range}
use Rattle.model.proofs.Endings.{waits_end_as_due, ended_waits_are_due}
use Rattle.record.specs.Step.{state_engine}
use Rattle.record.proofs.Equal.{state_lawful}
use Rattle.demands.specs.Runs.{Interface}
use Rattle.demands.specs.Waiting.{task_in, wait_begins_by, TaskAsDue, WaitsAsDue}
use Rattle.demands.proofs.Runs.{follows, Faithful}

-- Kind 1 is "waits".
waits_kind : (o : Outcome) → eqb (kind o) 1 ≡ is_wait o
waits_kind (Finished code) = refl
waits_kind (Waits place) = refl

begins_as : (m : Model) (c : Call) (t : ℕ) → wait_begins_by c (values (step m c).answer) t ≡ wait_begins m c t
begins_as m c t = ap (λ b. b && eqb t c.caller) (waits_kind (step m c).answer.outcome)

module _ {S : Type 0} {E : Engine S} (lawful : Lawful E) {s after : S} {c : Call} {answer : Answer} (h : Stepped E s c after answer) (sound : E.Sound s) where
  row_is : (t : ℕ) → task_in E after t ≡ row_after (E.abs s) c t
  row_is t = ap (λ (m : Model). m.rows (task t)) (follows h sound).meaning_is

  begins_is : (t : ℕ) → wait_begins_by c (values answer) t ≡ wait_begins (E.abs s) c t
  begins_is t = ap (λ (x : Answer). wait_begins_by c (values x) t) (follows h sound).answer_is ∙ begins_as (E.abs s) c t

  task_as_due : (t : ℕ) → TaskAsDue E s c after answer t
  task_as_due t =
      let k = waits_end_as_due (E.abs s) c t (lawful.well_formed s sound) in
      record {
        ends = λ e w d. row_is t ∙ k.ends e w d;
        goes_on = λ w d. row_is t ∙ k.goes_on w d;
        nothing_due = k.nothing_due;
        begins = λ b. let j = k.begins (subst T (begins_is t) b) in (j.0, row_is t ∙ j.1);
        defined = λ d. let j = k.defined d in (j.0, row_is t ∙ j.1);
        stays = λ w b d. row_is t ∙ k.stays w (subst (λ x. T (not x)) (begins_is t) b) d;
      }

pub waits_as_due : {S : Type 0} {E : Engine S} → Lawful E → WaitsAsDue E
waits_as_due {E = E} lawful s sound c after answer h =
    let f = follows h sound in
    let m = E.abs s in
    let well = lawful.well_formed s sound in
    let due = ended_waits_are_due m c well in
    record {
      waits_where = ap (λ (x : Answer). is_wait x.outcome) f.answer_is ∙ waits_exactly m c;
      place_below = λ place e. (places_in_range m c well).place_below place (ap (λ (x : Answer). x.outcome) (sym f.answer_is) ∙ e);
      messages_ahead_below = λ t. rw f.answer_is ((places_in_range m c well).messages_ahead_below t);
      ended_as_due = ap (λ (n : Model). ended_waits m.rows n.rows) f.meaning_is ∙ due.all_as_due;
      each_as_due = λ t. ap (λ (n : Model). ended_with m.rows n.rows t) f.meaning_is ∙ due.as_due t;
      tasks = task_as_due lawful h sound;
    }

pub states_wait_as_due : WaitsAsDue state_engine
states_wait_as_due = waits_as_due state_lawful

-- ── However calls are made ──

module _ {S C A : Type 0} {E : Engine S} {F : Interface S C A} (faithful : Faithful E F) where
  -- The answer's numbers are those of the definition's answer, so a wait begins in them where it begins in that.
  pub values_as_defined : {s after : S} {c : C} {answer : A} → E.Sound s → F.Steps s c after answer → F.values_of answer ≡ values (step (E.abs s) (F.call_of c)).answer
  values_as_defined sound h =
      let k = faithful.steps h in
      ap F.values_of k.given_is ∙ (faithful.values_are k.answer ∙ (follows k.stepped sound).values_are)

  pub begins_as_defined : {s after : S} {c : C} {answer : A} → E.Sound s → F.Steps s c after answer → (t : ℕ)
      → wait_begins_by (F.call_of c) (F.values_of answer) t ≡ wait_begins (E.abs s) (F.call_of c) t
  begins_as_defined {s} {c = c} sound h t = ap (λ x. wait_begins_by (F.call_of c) x t) (values_as_defined sound h) ∙ begins_as (E.abs s) (F.call_of c) t
