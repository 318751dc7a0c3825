-- Fetch gives the stored pair: where no wait begins in a run of records, none begins in the definition's run, and there the claim is proved (crate model).
use mathlib.Core.Path.{◌≡◌, sym, ◌∙◌, ap, subst}
use mathlib.Core.Bool.{not}
use mathlib.Core.List.{List, map}
use Prim.Native.Nat.{ℕ}
use lib.Dec.{T}
use Rattle.rows.specs.Runs.{end, Run, no_call, one_call}
use Rattle.model.specs.Rows.{Model}
use Rattle.model.specs.Codes.{values, finished}
use Rattle.model.specs.Step.{step}
use Rattle.model.specs.Endings.{CodeAndWord, NoWaitBegins, FetchOf}
use Rattle.model.specs.Engine.{Engine, Lawful}
use Rattle.model.specs.declared.Call.{Call}
use Rattle.model.proofs.StoredPair.{fetch_gives_stored_pair, fetch_gives_what_was_due}
use Rattle.record.specs.Step.{state_engine}
use Rattle.record.proofs.Equal.{state_lawful}
use Rattle.demands.specs.Runs.{Interface, by_value}
use Rattle.demands.specs.StoredPair.{NeverBegins, FetchGives, FetchGivesPair}
use Rattle.demands.proofs.Runs.{follows, Faithful, by_value_faithful, run_follows}
use Rattle.demands.proofs.Waiting.{values_as_defined, begins_as_defined}

-- By the definition, from m on, fetch of task t gives this pair after any calls in which no wait of the task begins.
abbrev DefinedToGive : ℕ → CodeAndWord → Model → Type 0
DefinedToGive t pair m = (cs : List Call) → NoWaitBegins t m cs → (c : Call) → FetchOf t (end step m cs) c → (step (end step m cs) c).answer ≡ finished pair.code pair.word 0 0

module _ {S C A : Type 0} {E : Engine S} {F : Interface S C A} (faithful : Faithful E F) where
  no_wait_begins : (t : ℕ) {s last : S} {calls : List C} {answers : List A} → E.Sound s → (run : Run F.Steps s calls last answers) → NeverBegins F t run
      → NoWaitBegins t (E.abs s) (map F.call_of calls)
  unfolding NeverBegins NoWaitBegins
  no_wait_begins t sound no_call n = tt
  no_wait_begins t sound (one_call {calls = calls} h rest) n =
      let f = follows (faithful.steps h).stepped sound in (
        subst (λ b. T (not b)) (begins_as_defined faithful sound h t) n.0,
        subst (λ m. NoWaitBegins t m (map F.call_of calls)) f.meaning_is (no_wait_begins t f.sound rest n.1),
      )

  fetch_gives : (t : ℕ) (pair : CodeAndWord) (s : S) → E.Sound s → DefinedToGive t pair (E.abs s) → FetchGives E F s t pair
  fetch_gives t pair s sound given calls last answers run n c fetch after answer h =
      let f = run_follows faithful sound run in
      values_as_defined faithful f.sound h
      ∙ (ap (λ (m : Model). values (step m (F.call_of c)).answer) f.meaning_is
      ∙ ap values (given (map F.call_of calls) (no_wait_begins t sound run n) (F.call_of c) (subst (λ m. FetchOf t m (F.call_of c)) f.meaning_is fetch)))

pub fetch_gives_pair : {S C A : Type 0} {E : Engine S} → Lawful E → {F : Interface S C A} → Faithful E F → FetchGivesPair E F
fetch_gives_pair {E = E} lawful {F = F} faithful = record {
  stored = λ s sound t is_defined able. fetch_gives faithful t _ s sound (fetch_gives_stored_pair (E.abs s) t (lawful.well_formed s sound) is_defined able);
  due = λ s sound t waiting c pair is_due after answer h.
      let f = follows (faithful.steps h).stepped sound in
      fetch_gives faithful t pair after f.sound
      (subst (DefinedToGive t pair) (sym f.meaning_is) (fetch_gives_what_was_due (E.abs s) (F.call_of c) t pair (lawful.well_formed s sound) waiting is_due));
}

pub states_give_pair : FetchGivesPair state_engine (by_value state_engine)
states_give_pair = fetch_gives_pair state_lawful (by_value_faithful state_engine)
