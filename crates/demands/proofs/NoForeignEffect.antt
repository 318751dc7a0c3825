-- A carrier's call leaves other rows alone: what it may change is closed, in that its rows name nothing outside, and a call stays within a closed set that has the rows it names.
use mathlib.Core.Path.{◌≡◌, refl, sym, ◌∙◌, subst}
use mathlib.Core.Option.{Option, none as nowhere, some, map, get_or}
use mathlib.Core.Bool.{Bool, false, not, ◌&&◌, ◌||◌}
use mathlib.Core.List.{List}
use mathlib.Core.Logic.{⊎_elim}
use Prim.Native.Nat.{ℕ}
use lib.Dec.{T, T_not, eqb}
use mir.Facts.{and_yes, yes_and, or_yes}
use Rattle.lists.specs.Lists.{Each, none, both}
use Rattle.lists.proofs.Each.{each_map}
use Rattle.lists.specs.Options.{IfSome}
use Rattle.rows.specs.Runs.{Run, no_call, one_call}
use Rattle.rows.specs.Program as Program
use Rattle.rows.specs.Program.{step_of}
use Rattle.rows.proofs.Footprint.{Closed, keeps_closed, outside}
use Rattle.model.specs.Rows.{Key, task, suspension, queue, mailbox, message, same_key, Row, Model}
use Rattle.model.specs.Waits.{WaitQueue, object_of, wait_queue, object_named}
use Rattle.model.specs.Step.{program, step}
use Rattle.model.specs.Engine.{Engine, Lawful}
use Rattle.model.specs.Isolation.{WaitsAt, QueuedAt, Linked, QueuedIn, Placed, CallOf, Carrier, owns, Own, Disjoint}
use Rattle.model.specs.declared.Call.{Call}
use Rattle.model.specs.declared.Wait.{Wait}
use Rattle.model.proofs.Tests.{or_left, or_right}
use Rattle.model.proofs.Step.{step_call}
use Rattle.model.proofs.Footprints.{NamedIn, in_program}
use Rattle.model.proofs.WellFormed.{well_formed_linked}
use Rattle.record.specs.Step.{state_engine}
use Rattle.record.proofs.Equal.{state_lawful}
use Rattle.demands.specs.NoForeignEffect.{waits_at_object, may_change, NoForeignEffect}
use Rattle.demands.specs.Runs.{Interface, by_value}
use Rattle.demands.proofs.Runs.{follows, Faithful, by_value_faithful}

-- ── What may change is closed ──

module _ (a : Carrier) (m : Program.Rows Row) where
  abbrev MayChange : Key → Type 0
  MayChange k = T (may_change a m k)

  own_may_change : (k : Key) → Own a k → MayChange k
  own_may_change (task n) t = or_left (a.tasks n) _ t
  own_may_change (suspension n) t = t
  own_may_change (queue n) t = t
  own_may_change (mailbox n) t = t
  own_may_change (message n) t = or_left (a.messages n) _ t

  own_may : (x : WaitQueue) → Own a (object_of x) → MayChange (object_of x)
  own_may x t = own_may_change (object_of x) t

  object_of_wait : (own : Bool) (x : Option WaitQueue) → (T own → IfSome (Own a) (map object_of x)) → T (own || get_or (map (owns a) (map object_of x)) false)
      → IfSome MayChange (map object_of x)
  object_of_wait own nowhere p t = tt
  object_of_wait own (some x) p t = ⊎_elim (λ u. own_may x (p u)) (own_may x) (or_yes own (owns a (object_of x)) t)

  waits_at_own : (k : Key) (w : Wait) → Own a k → WaitsAt k w → T (waits_at_object a w)
  waits_at_own k w o e = subst (λ (x : Option Key). T (get_or (map (owns a) x) false)) (sym e) o

  standing : (k : Key) → Own a k → (t : ℕ) → WaitsAt k (m (task t)).wait → MayChange (task t)
  standing k o t e = or_right (a.tasks t) _ (waits_at_own k (m (task t)).wait o e)

  queued : (b : ℕ) → Own a (mailbox b) → (g : ℕ) → QueuedAt b (m (message g)) → MayChange (message g)
  queued b o g e = or_right (a.messages g) _
      (subst (λ n. T (not (eqb n 0) && a.mailboxes n)) (sym e.queued_here) (yes_and (not (eqb b 0)) (a.mailboxes b) e.a_mailbox o))

  closed : Linked m → Placed (Own a) m → Closed NamedIn MayChange m
  unfolding QueuedIn
  closed l p (task n) t = object_of_wait (a.tasks n) (wait_queue (m (task n)).wait) (p.tasks n) t
  closed l p (suspension n) t = tt
  closed l p (queue n) t = (each_map (standing (queue n) t) (l.senders n), each_map (standing (queue n) t) (l.receivers n))
  closed l p (mailbox n) t = (each_map (standing (mailbox n) t) (l.waiters n), each_map (queued n t) (l.messages n))
  closed l p (message n) t =
      let b = (m (message n)).queued_in in
      ⊎_elim (p.messages n) (λ u some. (and_yes (not (eqb b 0)) (a.mailboxes b) u).1) (or_yes (a.messages n) (not (eqb b 0) && a.mailboxes b) t)

-- ── Another carrier's rows are not among it ──

module _ (a b : Carrier) (apart : Disjoint a b) where
  other_object : (x : Option Key) → IfSome (Own b) x → T (get_or (map (owns a) x) false) → ⊥
  other_object nowhere h t = t
  other_object (some k) h t = apart k t h

  other : (m : Program.Rows Row) → Placed (Own b) m → (k : Key) → Own b k → T (may_change a m k) → ⊥
  unfolding QueuedIn
  other m p (task n) o t = ⊎_elim (λ u. apart (task n) u o) (other_object (object_named (m (task n)).wait) (p.tasks n o)) (or_yes (a.tasks n) _ t)
  other m p (suspension n) o t = apart (suspension n) t o
  other m p (queue n) o t = apart (queue n) t o
  other m p (mailbox n) o t = apart (mailbox n) t o
  other m p (message n) o t =
      let x = (m (message n)).queued_in in
      ⊎_elim (λ u. apart (message n) u o)
      (λ u. let h = and_yes (not (eqb x 0)) (a.mailboxes x) u in apart (mailbox x) h.1 (p.messages n o h.0))
      (or_yes (a.messages n) (not (eqb x 0) && a.mailboxes x) t)

-- ── Calls ──

-- What a call leaves alone, where its names lie in a closed set: the rows outside, and what calls only read. The set stays closed.
record Spares (K : Key → Type 0) (m n : Model) : Type 0 where
  rows : (k : Key) → (K k → ⊥) → n.rows k ≡ m.rows k
  environment : n.environment ≡ m.environment

module _ (K : Key → Type 0) where
  call_spares : (m : Model) (c : Call) → CallOf K c → Closed NamedIn K m.rows → Spares K m (step m c).state × Closed NamedIn K (step m c).state.rows
  unfolding step_of
  call_spares m c own shut =
      let inside = in_program K m.environment c own.own_names in
      rw (step_call m c own.no_tick) (
        record { rows = outside same_key NamedIn K (λ x. Unit) (program m.environment c) m.rows inside shut; environment = refl },
        keeps_closed same_key NamedIn K (λ x. Unit) (program m.environment c) m.rows inside shut,
      )

  module _ {S C A : Type 0} {E : Engine S} {F : Interface S C A} (faithful : Faithful E F) where
    run_spares : {s last : S} {calls : List C} {answers : List A} → E.Sound s → Closed NamedIn K (E.abs s).rows → Each (λ c. CallOf K (F.call_of c)) calls → Run F.Steps s calls last answers
        → Spares K (E.abs s) (E.abs last)
    run_spares sound shut none no_call = record { rows = λ k n. refl; environment = refl }
    run_spares {s} sound shut (both {x = c} own owns) (one_call {after = after} h rest) =
        let f = follows (faithful.steps h).stepped sound in
        let k = subst (λ n. Spares K (E.abs s) n × Closed NamedIn K n.rows) (sym f.meaning_is) (call_spares (E.abs s) (F.call_of c) own shut) in
        let l = run_spares {s = after} f.sound k.1 owns rest in
        record { rows = λ j n. l.rows j n ∙ k.0.rows j n; environment = l.environment ∙ k.0.environment }

pub no_foreign_effect : {S C A : Type 0} {E : Engine S} → Lawful E → {F : Interface S C A} → Faithful E F → NoForeignEffect E F
no_foreign_effect {E = E} lawful {F = F} faithful s sound a placed calls own last answers p =
    let m = (E.abs s).rows in
    let shut = closed a m (well_formed_linked (E.abs s) (lawful.well_formed s sound)) placed in
    let own_calls : Each (λ c. CallOf (MayChange a m) (F.call_of c)) calls = each_map (λ c o. record { no_tick = o.no_tick; own_names = each_map (λ k g t. own_may_change a m k (g t)) o.own_names }) own in
    let spares = run_spares (MayChange a m) faithful sound shut own_calls p in
    record {
      other_rows = λ k n. spares.rows k (T_not (may_change a m k) n);
      environment = spares.environment;
      other_carrier = λ b apart placed_b k o. spares.rows k (other a b apart m placed_b k o);
    }

pub states_have_no_foreign_effect : NoForeignEffect state_engine (by_value state_engine)
states_have_no_foreign_effect = no_foreign_effect state_lawful (by_value_faithful state_engine)
