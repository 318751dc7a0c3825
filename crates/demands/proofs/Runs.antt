-- A step of a sound record follows the definition, whatever the call's number; so does a run, however its calls are made; and lists run: by induction on the run.
use mathlib.Core.Path.{◌≡◌, refl, sym, ap, ap₂, ◌∙◌, subst}
use mathlib.Core.Bool.{not}
use mathlib.Core.List.{List, [], ◌∷◌, map}
use Prim.Native.Nat.{ℕ, ◌≤◌, ◌<◌}
use native.Mathlib.Omega.{arith}
use native.Mathlib.Decide.{dec_lt}
use lib.Dec.{T, eqb, not_T, eqb→eq, lt→ltb}
use Rattle.lists.specs.Lists.{Each, none, both}
use Rattle.rows.specs.Program as Program
use Rattle.rows.specs.Runs.{end, answers, in_a_row, Run, no_call, one_call}
use Rattle.rows.specs.Merges.{end_of_turns, answers_of_turns}
use Rattle.rows.proofs.Runs.{runs_follow}
use Rattle.model.specs.Sizes.{call_limit}
use Rattle.model.specs.Rows.{Model}
use Rattle.model.specs.Codes.{values, finished}
use Rattle.model.specs.Calls.{View, view_of}
use Rattle.model.specs.Errors.{unknown, rows_to_step_4, error_table, some_applies, first_that_applies, refused, refusal}
use Rattle.model.specs.Step.{step}
use Rattle.model.specs.WellFormed.{WellFormed}
use Rattle.model.specs.Engine.{Engine, Follows, Stepped, SteppedAs}
use Rattle.model.specs.declared.Answer.{Answer}
use Rattle.model.specs.declared.Call.{Call}
use Rattle.model.specs.declared.Code.TheVariants.{Par as E_PAR}
use Rattle.model.proofs.Tests.{or_left}
use Rattle.model.proofs.Choices.{cond_yes}
use Rattle.model.proofs.Refusals.{refusals}
use Rattle.model.proofs.WellFormed.{kept_well_formed}
use Rattle.record.specs.Step.{state_engine}
use Rattle.demands.specs.Runs.{RunOfTurns, no_turn, one_turn, SomeRun, SomeRunOfTurns, SomeStep, ListsRun, model_engine, ModelsRun, ModelsRunAs, Interface, by_value}

-- A number above 23 is unknown: the first row of the table applies.
is_unknown : (c : Call) → call_limit < c.number → T (unknown c)
unfolding unknown
is_unknown c h = lt→ltb call_limit c.number h

pub unknown_refused : (v : View) (c : Call) → call_limit < c.number → T (refused v c)
unfolding refused error_table rows_to_step_4 some_applies
unknown_refused v c h = or_left (unknown c) _ (is_unknown c h)

pub unknown_refusal : (v : View) (c : Call) → call_limit < c.number → refusal v c ≡ E_PAR
unfolding refusal error_table rows_to_step_4 first_that_applies
unknown_refusal v c h = cond_yes (unknown c) _ _ (is_unknown c h)

-- A number that isn't 0 is not the tick's.
pub no_tick : (n : ℕ) → 1 ≤ n → T (not (eqb n 0))
no_tick n h = not_T (eqb n 0) (λ t. let e = eqb→eq n 0 t in omega arith)

module _ {S : Type 0} {E : Engine S} {s after : S} {c : Call} {answer : Answer} (h : Stepped E s c after answer) (sound : E.Sound s) where
  unknown_follows : call_limit < c.number → Follows E s c after answer
  unknown_follows above =
      let v = view_of (E.abs s) c in
      let e = h.unknown above in
      let by_row = (refusals (E.abs s) c (no_tick c.number (omega arith))).by_row (unknown_refused v c above) in
      let answered : answer ≡ (step (E.abs s) c).answer =
      e.finished_with.answer_is ∙ (ap (λ code. finished code 0 0 0) (sym (unknown_refusal v c above)) ∙ ap (λ (o : Program.Result Model Answer). o.answer) (sym by_row)) in
      record {
        answer_is = answered;
        values_are = ap values answered;
        meaning_is = ap E.abs e.state_is ∙ ap (λ (o : Program.Result Model Answer). o.state) (sym by_row);
        sound = subst E.Sound (sym e.state_is) sound;
        unchanged = λ n t. e.state_is;
      }

  pub follows : Follows E s c after answer
  follows = elim (dec_lt call_limit c.number) [ yes above ↦ unknown_follows above | no known ↦ h.sound (omega arith) sound ]

-- ── The definition as an engine ──

pub model_steps : (m : Model) → WellFormed m → (c : Call) → Stepped model_engine m c (step m c).state (step m c).answer
model_steps m w c = record {
  unknown = λ above.
      let by_row = (refusals m c (no_tick c.number (omega arith))).by_row (unknown_refused (view_of m c) c above) in
      let answered = ap (λ (o : Program.Result Model Answer). o.answer) by_row ∙ ap (λ code. finished code 0 0 0) (unknown_refusal (view_of m c) c above) in
      record { state_is = ap (λ (o : Program.Result Model Answer). o.state) by_row; finished_with = record { answer_is = answered; values_are = ap values answered } };
  unsound = λ known no. absurd (no w);
  sound = λ known sound. record {
    answer_is = refl;
    values_are = refl;
    meaning_is = refl;
    sound = kept_well_formed m c w;
    unchanged = λ call refused_so. ap (λ (o : Program.Result Model Answer). o.state) ((refusals m c call).by_row refused_so);
  };
}

pub models_run : ModelsRun
models_run m w [] = record { last = m; answers = []; run = no_call }
models_run m w (c ∷ calls) =
    let rest = models_run (step m c).state (kept_well_formed m c w) calls in
    record { last = rest.last; answers = (step m c).answer ∷ rest.answers; run = one_call (model_steps m w c) rest.run }

pub models_run_as : {C A : Type 0} (call_of : C → Call) (answer_of : Answer → A) → ModelsRunAs call_of answer_of
models_run_as call_of answer_of m w [] = record { last = m; answers = []; run = no_call }
models_run_as call_of answer_of m w (c ∷ calls) =
    let rest = models_run_as call_of answer_of (step m (call_of c)).state (kept_well_formed m (call_of c) w) calls in
    record {
      last = rest.last;
      answers = answer_of (step m (call_of c)).answer ∷ rest.answers;
      run = one_call (record { answer = (step m (call_of c)).answer; stepped = model_steps m w (call_of c); given_is = refl }) rest.run;
    }

-- ── However calls are made ──

-- Every step is one of the engine's, its call and its answer written otherwise, and what is written has the same numbers.
pub record Faithful {S C A : Type 0} (E : Engine S) (F : Interface S C A) : Type 0 where
  pub answer_of : Answer → A
  pub values_are : (x : Answer) → F.values_of (answer_of x) ≡ values x
  pub steps : {s after : S} {c : C} {given : A} → F.Steps s c after given → SteppedAs E F.call_of answer_of s c after given

abbrev pub by_value_faithful : {S : Type 0} (E : Engine S) → Faithful E (by_value E)
by_value_faithful E = record { answer_of = λ x. x; values_are = λ x. refl; steps = λ h. record { answer = _; stepped = h; given_is = refl } }

-- ── What is made on records follows what is defined on states ──

-- `defined` is what a call, a table or a list of them does to a state. Made on a sound record, it leaves a sound one, which means the state that `defined` leaves.
pub record AsDefined {S X Y : Type 0} (E : Engine S) (defined : Model → X → Program.Result Model Y) (s : S) (x : X) (after : S) (given : Y) : Type 0 where
  pub meaning_is : E.abs after ≡ (defined (E.abs s) x).state
  pub given_is : given ≡ (defined (E.abs s) x).answer
  pub sound : E.Sound after

pub record StepsAsDefined {S X Y : Type 0} (E : Engine S) (Steps : S → X → S → Y → Type 0) (defined : Model → X → Program.Result Model Y) : Type 0 where
  pub each_step : {s after : S} {x : X} {given : Y} → E.Sound s → Steps s x after given → AsDefined E defined s x after given

-- Turns, made one after the other.
abbrev pub in_turn : {I X Y : Type 0} → (Model → X → Program.Result Model Y) → Model → List (I × X) → Program.Result Model (List (I × Y))
in_turn defined m turns = record { state = end_of_turns defined m turns; answer = answers_of_turns defined m turns }

-- A run from a sound record is the definition's run from what the record means.
module _ {S X Y : Type 0} {E : Engine S} {Steps : S → X → S → Y → Type 0} {defined : Model → X → Program.Result Model Y} (steps : StepsAsDefined E Steps defined) where
  pub run_as_defined : {s last : S} {xs : List X} {given : List Y} → E.Sound s → Run Steps s xs last given → AsDefined E (in_a_row defined) s xs last given
  unfolding in_a_row
  run_as_defined sound run =
      let f = runs_follow E.abs E.Sound defined (λ s after x given sound h. let k = steps.each_step sound h in (k.meaning_is, k.given_is, k.sound)) sound run in
      record { meaning_is = f.0; given_is = f.1; sound = f.2 }

  pub turns_as_defined : {I : Type 0} {s last : S} {turns : List (I × X)} {given : List (I × Y)} → E.Sound s → RunOfTurns Steps s turns last given
      → AsDefined E (in_turn defined) s turns last given
  unfolding end_of_turns answers_of_turns
  turns_as_defined sound no_turn = record { meaning_is = refl; given_is = refl; sound = sound }
  turns_as_defined sound (one_turn {i = i} {turns = turns} h rest) =
      let f = steps.each_step sound h in
      let others = turns_as_defined f.sound rest in
      record {
        meaning_is = others.meaning_is ∙ ap (λ m. end_of_turns defined m turns) f.meaning_is;
        given_is = ap₂ (λ y l. (i, y) ∷ l) f.given_is (others.given_is ∙ ap (λ m. answers_of_turns defined m turns) f.meaning_is);
        sound = others.sound;
      }

-- What a call does, and a list of calls, where calls and answers are written otherwise.
module _ {C A : Type 0} (call_of : C → Call) (answer_of : Answer → A) where
  abbrev pub written : Model → C → Program.Result Model A
  written m c = record { state = (step m (call_of c)).state; answer = answer_of (step m (call_of c)).answer }

  abbrev pub all_written : Model → List C → Program.Result Model (List A)
  all_written m calls = record { state = end step m (map call_of calls); answer = map answer_of (answers step m (map call_of calls)) }

  written_in_a_row : (m : Model) (calls : List C) → in_a_row written m calls ≡ all_written m calls
  unfolding in_a_row end answers
  written_in_a_row m [] = refl
  written_in_a_row m (c ∷ calls) =
      let o = written m c in ap (λ (r : Program.Result Model (List A)). record { state = r.state; answer = o.answer ∷ r.answer }) (written_in_a_row o.state calls)

  module _ {S : Type 0} {E : Engine S} where
    pub steps_as_defined : StepsAsDefined E (SteppedAs E call_of answer_of) written
    steps_as_defined = record {
      each_step = λ sound h.
          let f = follows h.stepped sound in record { meaning_is = f.meaning_is; given_is = h.given_is ∙ ap answer_of f.answer_is; sound = f.sound };
    }

    pub run_written : {Steps : S → C → S → A → Type 0} → StepsAsDefined E Steps written
        → {s last : S} {calls : List C} {given : List A} → E.Sound s → Run Steps s calls last given → AsDefined E all_written s calls last given
    run_written steps {s} {last} {calls} {given} sound run =
        subst (λ defined. AsDefined E defined s calls last given) (λ i m cs. written_in_a_row m cs i) (run_as_defined steps sound run)

module _ {S C A : Type 0} {E : Engine S} {F : Interface S C A} (faithful : Faithful E F) where
  pub calls_as_defined : StepsAsDefined E F.Steps (written F.call_of faithful.answer_of)
  calls_as_defined = record { each_step = λ sound h. (steps_as_defined F.call_of faithful.answer_of).each_step sound (faithful.steps h) }

  pub run_follows : {s last : S} {calls : List C} {given : List A} → E.Sound s → Run F.Steps s calls last given
      → AsDefined E (all_written F.call_of faithful.answer_of) s calls last given
  run_follows = run_written F.call_of faithful.answer_of calls_as_defined

-- ── Lists run ──

module _ {S C A : Type 0} {Steps : S → C → S → A → Type 0} (k : SomeStep Steps) where
  calls_run : (s : S) → k.Record s → (calls : List C) → Each k.Sent calls → SomeRun Steps s calls
  calls_run s h [] none = record { last = s; answers = []; run = no_call }
  calls_run s h (c ∷ calls) (both o os) =
      let kept = k.keeps s c h o in
      let rest = calls_run (k.step s c).0 kept.1 calls os in
      record { last = rest.last; answers = (k.step s c).1 ∷ rest.answers; run = one_call kept.0 rest.run }

  turns_run : {I : Type 0} (s : S) → k.Record s → (turns : List (I × C)) → Each (λ turn. k.Sent turn.1) turns → SomeRunOfTurns Steps s turns
  turns_run s h [] none = record { last = s; answers = []; run = no_turn }
  turns_run s h (turn ∷ turns) (both o os) =
      let kept = k.keeps s turn.1 h o in
      let rest = turns_run (k.step s turn.1).0 kept.1 turns os in
      record { last = rest.last; answers = (turn.0, (k.step s turn.1).1) ∷ rest.answers; run = one_turn kept.0 rest.run }

pub lists_run : {S C A : Type 0} (Steps : S → C → S → A → Type 0) → ListsRun Steps
lists_run Steps = record { calls = λ k. calls_run k; turns = λ k I. turns_run k }

pub states_run : ListsRun (Stepped state_engine)
states_run = lists_run (Stepped state_engine)
