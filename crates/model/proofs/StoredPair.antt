-- Fetch gives the stored pair until the task's next wait begins: by induction on the calls.
use mathlib.Core.Path.{◌≡◌, refl, sym, ◌∙◌, ap, subst}
use mathlib.Core.Bool.{not}
use mathlib.Core.List.{List, [], ◌∷◌}
use Prim.Native.Nat.{ℕ}
use native.Mathlib.Omega.{arith}
use lib.Dec.{T, T_not, not_T, eqb→eq}
use lib.ListN.{get_or}
use mir.Facts.{T_not-not}
use Rattle.lists.specs.Lists.{one_of}
use Rattle.lists.proofs.Each.{each_of_all}
use Rattle.rows.specs.Program.{run, step_of}
use Rattle.rows.specs.Runs.{end}
use Rattle.model.specs.Rows.{task, same_key, TaskRow, Model}
use Rattle.model.specs.Codes.{finished}
use Rattle.model.specs.Calls.{Call, is_tick, fetches, view_of}
use Rattle.model.specs.Waits.{Wait, able, ended}
use Rattle.model.specs.Errors.{refused}
use Rattle.model.specs.Step.{effects, effect, no_call, step}
use Rattle.model.specs.WellFormed.{WellFormed}
use Rattle.model.specs.Endings.{is_waiting, row_after, defines, NoWaitBegins, FetchOf, FetchGivesStoredPair, FetchGivesWhatWasDue}
use Rattle.model.proofs.Step.{numbered, step_call, run_accepted}
use Rattle.model.proofs.Accepted.{accepted}
use Rattle.model.proofs.KeptCalls.{Valid}
use Rattle.model.proofs.WellFormed.{kept_well_formed}
use Rattle.model.proofs.Shown.{shown_task}
use Rattle.model.proofs.Endings.{waits_end_as_due}

-- The row of a task that is defined and doesn't wait stays until its next wait begins.
stays_until : (m : Model) (t : ℕ) → WellFormed m → T (m.rows (task t)).defined → T (not (is_waiting m.rows t)) → (cs : List Call) → NoWaitBegins t m cs
    → (end step m cs).rows (task t) ≡ m.rows (task t)
unfolding NoWaitBegins end
stays_until m t w defined_task no_wait [] b = refl
stays_until m t w defined_task no_wait (c ∷ cs) b =
    let same : row_after m c t ≡ m.rows (task t) = (waits_end_as_due m c t w).stays no_wait b.0
    (not_T (defines m c t) (λ d. T_not (m.rows (task t)).defined ((waits_end_as_due m c t w).defined d).0 defined_task)) in
    stays_until (step m c).state t (kept_well_formed m c w) (subst (λ (x : TaskRow). T x.defined) (sym same) defined_task)
    (subst (λ (x : TaskRow). T (not (not (able x.wait)))) (sym same) no_wait) cs b.1 ∙ same

-- An accepted fetch answers the pair of the row in view.
pub fetch_answers : (m : Model) (c : Call) → T (fetches c) → T (not (refused (view_of m c) c))
    → (step m c).answer ≡ finished (view_of m c).the_task.code (view_of m c).the_task.word 0 0
unfolding step_of effect effects run
fetch_answers m c f t =
    let e = eqb→eq c.number 23 f in
    rw (step_call m c (not_T (is_tick c) (λ u. let z = eqb→eq c.number 0 u in omega arith)), run_accepted m c t)
    (ap (λ n. (run same_key (get_or effects n no_call m.environment (view_of m c) c) m.rows).answer) e)

fetch_gives : (m : Model) (t : ℕ) (f : Call) → FetchOf t m f → (step m f).answer ≡ finished (m.rows (task t)).code (m.rows (task t)).word 0 0
unfolding one_of
fetch_gives m t f h = subst (λ n. T (not (refused (view_of m (numbered n f)) (numbered n f))) → (step m (numbered n f)).answer ≡ finished (m.rows (task t)).code (m.rows (task t)).word 0 0)
    (sym (eqb→eq f.number 23 h.is_fetch)) at_23 h.accepted
  where
    at_23 : T (not (refused (view_of m (numbered 23 f)) (numbered 23 f))) → (step m (numbered 23 f)).answer ≡ finished (m.rows (task t)).code (m.rows (task t)).word 0 0
    at_23 ok =
        let a = accepted Valid (view_of m (numbered 23 f)) (numbered 23 f) (each_of_all (λ k i. i) _) ok in
        fetch_answers m (numbered 23 f) tt ok ∙ ap (λ (x : TaskRow). finished x.code x.word 0 0) (shown_task m (numbered 23 f) tt (a.task_in tt) ∙ ap (λ n. m.rows (task n)) h.names_it)

pub fetch_gives_stored_pair : FetchGivesStoredPair
fetch_gives_stored_pair m t w defined_task no_wait cs b f h =
    fetch_gives (end step m cs) t f h ∙ ap (λ (x : TaskRow). finished x.code x.word 0 0) (stays_until m t w defined_task no_wait cs b)

-- A task that waits is defined.
waits_defined : {m : Model} → WellFormed m → (t : ℕ) → T (is_waiting m.rows t) → T (m.rows (task t)).defined
waits_defined {m} w t h = T_not-not (m.rows (task t)).defined (not_T (not (m.rows (task t)).defined) (λ u. subst (λ (z : Wait). T (not (able z))) ((w.rows.tasks t).undefined u) h))

pub fetch_gives_what_was_due : FetchGivesWhatWasDue
fetch_gives_what_was_due m c t e w h d cs b f k =
    let same : row_after m c t ≡ ended e.code e.word (m.rows (task t)) = (waits_end_as_due m c t w).ends e h d in
    fetch_gives_stored_pair (step m c).state t (kept_well_formed m c w) (subst (λ (x : TaskRow). T x.defined) (sym same) (waits_defined w t h))
    (subst (λ (x : TaskRow). T (not (not (able x.wait)))) (sym same) tt) cs b f k
    ∙ ap (λ (x : TaskRow). finished x.code x.word 0 0) same
