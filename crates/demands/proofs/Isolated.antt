-- Demand 3 for records: however calls are made, runs of records are the definition's runs of what they mean, and there the claim is proved (crate model).
use mathlib.Core.Path.{◌≡◌, refl, sym, ◌∙◌, ap}
use mathlib.Core.Bool.{Bool}
use mathlib.Core.List.{List, [], ◌∷◌, map, head-eq_of_cons-eq}
use Rattle.lists.specs.Lists.{Each, none, both}
use Rattle.rows.specs.Program as Program
use Rattle.rows.specs.Runs.{end, answers, in_a_row}
use Rattle.rows.specs.Merge.{Merge, done, left, right, Separate}
use Rattle.rows.specs.Merges.{share, SeparateAll}
use Rattle.rows.proofs.InARow.{MadeOf}
use Rattle.model.specs.Rows.{Model}
use Rattle.model.specs.Step.{step}
use Rattle.model.specs.Engine.{Engine, Lawful}
use Rattle.model.specs.Isolation.{Placed, CallOf, Carrier, Own, ListsOfTwo, Owners, OwnedBy}
use Rattle.model.specs.declared.Answer.{Answer}
use Rattle.model.specs.declared.Call.{Call}
use Rattle.model.proofs.Isolation.{two_carriers, many_carriers, placed_at_empty}
use Rattle.model.proofs.WellFormed.{well_formed_linked}
use Rattle.record.specs.Step.{state_engine}
use Rattle.record.proofs.Equal.{state_lawful}
use Rattle.demands.specs.Runs.{Interface, by_value}
use Rattle.demands.specs.Isolated.{Undisturbed, Isolated, IsolatedFromEmpty, AllUndisturbed, IsolatedMany}
use Rattle.demands.proofs.Runs.{Faithful, by_value_faithful, StepsAsDefined, run_as_defined, turns_as_defined, written, calls_as_defined}

-- ── Every engine, whatever stands in the lists ──

pub merge_map : {X Y : Type 0} (f : X → Y) {turns : List Bool} {xs ys zs : List X} → Merge turns xs ys zs → Merge turns (map f xs) (map f ys) (map f zs)
merge_map f done = done
merge_map f (left m) = left (merge_map f m)
merge_map f (right m) = right (merge_map f m)

-- `calls` are the calls that a list stands for, `defined` is what one of its entries does to a state.
module _ {S X Y N : Type 0} {E : Engine S} (lawful : Lawful E) {Steps : S → X → S → Y → Type 0} {defined : Model → X → Program.Result Model Y} {calls : List X → List Call}
    (steps : StepsAsDefined E Steps defined) (made : MadeOf step defined calls) (values_of : Y → N) where
  -- Sound records that mean the same are equal states.
  same_state : {s u : S} → E.Sound s → E.Sound u → E.abs s ≡ E.abs u → E.Same s u
  same_state {s} {u} S U e = (lawful.equal_states s u S U).1 e

  pub undisturbed : (s : S) → E.Sound s → (a b : Carrier) → Placed (Own a) (E.abs s).rows → Placed (Own b) (E.abs s).rows
      → (xs ys : List X) → ListsOfTwo (λ c. c) a b (calls xs) (calls ys) → Undisturbed E Steps values_of s xs ys
  unfolding in_a_row
  undisturbed s sound a b placed_a placed_b xs ys two = record {
    answers_alone = λ {turns} {zs} m {x_answers = x} {y_answers = y} {z_answers = z} p q o.
        let answers : Merge turns x y z =
        rw ((run_as_defined steps sound p).given_is, (run_as_defined steps sound q).given_is, (run_as_defined steps sound o).given_is) (h.answers_alone turns zs m) in
        record { answers = answers; values = merge_map values_of answers };
    one_end = λ {turns} {turns'} {zs} {zs'} m n p q.
        let f = run_as_defined steps sound p in
        let g = run_as_defined steps sound q in
        same_state f.sound g.sound (f.meaning_is ∙ (h.one_end turns turns' zs zs' m n ∙ sym g.meaning_is));
    end_sound = λ m p. (run_as_defined steps sound p).sound;
  }
    where
      h : Separate defined (E.abs s) xs ys
      h = two_carriers made (E.abs s) (well_formed_linked (E.abs s) (lawful.well_formed s sound)) a b placed_a placed_b xs ys two

  pub all_undisturbed : (I : Type 0) (same_owner : Discrete I) (s : S) → E.Sound s → (o : Owners I) (lists : I → List X)
      → ((i : I) → (calls (lists i) ≡ [] → ⊥) → Placed (OwnedBy o i) (E.abs s).rows) → ((i : I) → Each (CallOf (OwnedBy o i)) (calls (lists i)))
      → AllUndisturbed same_owner E Steps values_of s lists
  unfolding in_a_row
  all_undisturbed I same_owner s sound o lists placed own = record {
    answers_alone = λ {turns} m p i q.
        let same = ap (share same_owner i) (turns_as_defined steps sound p).given_is ∙ (h.answers_alone turns m i ∙ sym (run_as_defined steps sound q).given_is) in
        (same, ap (map values_of) same);
    one_end = λ {turns} {turns'} m n p q.
        let f = turns_as_defined steps sound p in
        let g = turns_as_defined steps sound q in
        same_state f.sound g.sound (f.meaning_is ∙ (h.one_end turns turns' m n ∙ sym g.meaning_is));
    end_sound = λ m p. (turns_as_defined steps sound p).sound;
  }
    where
      h : SeparateAll same_owner defined (E.abs s) lists
      h = many_carriers made I same_owner (E.abs s) (well_formed_linked (E.abs s) (lawful.well_formed s sound)) o lists placed own

-- ── Lists of calls, however they are made ──

written_made : {C A : Type 0} (call_of : C → Call) (answer_of : Answer → A) → MadeOf step (written call_of answer_of) (map call_of)
unfolding end answers
written_made call_of answer_of = record {
  row = λ c. call_of c ∷ [];
  no_entry = refl;
  one_entry = λ c cs. refl;
  state_is = λ m c. refl;
  by_answers = λ m n c e. ap answer_of (head-eq_of_cons-eq e);
}

each_read : {X Y : Type 0} {f : X → Y} (P : Y → Type 0) {l : List X} → Each (λ x. P (f x)) l → Each P (map f l)
each_read P none = none
each_read P (both p ps) = both p (each_read P ps)

module _ {S C A : Type 0} {E : Engine S} (lawful : Lawful E) {F : Interface S C A} (faithful : Faithful E F) where
  made : MadeOf step (written F.call_of faithful.answer_of) (map F.call_of)
  made = written_made F.call_of faithful.answer_of

  pub isolated : Isolated E F
  isolated s sound a b placed_a placed_b xs ys two =
      undisturbed lawful (calls_as_defined faithful) made F.values_of s sound a b placed_a placed_b xs ys
      (record { disjoint = two.disjoint; calls_of_a = each_read _ two.calls_of_a; calls_of_b = each_read _ two.calls_of_b })

  pub isolated_from_empty : IsolatedFromEmpty E F
  isolated_from_empty s sound counter e a b = isolated s sound a b (placed_at_empty e (Own a)) (placed_at_empty e (Own b))

  pub isolated_many : IsolatedMany E F
  isolated_many I same_owner s sound o lists placed own =
      all_undisturbed lawful (calls_as_defined faithful) made F.values_of I same_owner s sound o lists
      (λ i calling. placed i (λ e. calling (ap (map F.call_of) e))) (λ i. each_read _ (own i))

-- ── The record `State` ──

pub states_isolated : Isolated state_engine (by_value state_engine)
states_isolated = isolated state_lawful (by_value_faithful state_engine)

pub states_isolated_from_empty : IsolatedFromEmpty state_engine (by_value state_engine)
states_isolated_from_empty = isolated_from_empty state_lawful (by_value_faithful state_engine)

pub states_isolated_many : IsolatedMany state_engine (by_value state_engine)
states_isolated_many = isolated_many state_lawful (by_value_faithful state_engine)
