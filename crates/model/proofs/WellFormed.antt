-- Every call and the tick keep a model well-formed, the empty model is well-formed, and a well-formed model is linked: a call by cases, refused or accepted.
use mathlib.Core.Path.{◌≡◌, refl, ap, subst}
use mathlib.Core.Bool.{Bool, true, false, not, cond}
use mathlib.Core.List.{[], map}
use mathlib.Core.Option
use mathlib.Core.Option.{some, none, none-ne-some, some-injective}
use Prim.Native.Nat.{ℕ, ◌<◌}
use native.Mathlib.Omega.{arith}
use lib.Dec.{T, eqb}
use Rattle.lists.specs.Lists.{empty, one_of, InOrder, no_key}
use Rattle.lists.proofs.Each.{each_of_all}
use Rattle.lists.proofs.Stands.{each_member, stands_nowhere}
use Rattle.rows.specs.Program.{run, step_of}
use Rattle.model.specs.Rows.{task, message, same_key, MessageRow, no_task, nothing as no_rows, Model}
use Rattle.model.specs.Sizes.{priority_limit, counter_span}
use Rattle.model.specs.Calls.{Call, view_of}
use Rattle.model.specs.Waits.{Wait, WaitQueue, senders_of, receivers_of, waiters_of, object_of, wait_queue}
use Rattle.model.specs.Errors.{refused}
use Rattle.model.specs.Tasks.{tick}
use Rattle.model.specs.Step.{step, program}
use Rattle.model.specs.Isolation.{WaitsAt, QueuedAt, WellFormedLinked}
use Rattle.model.specs.WellFormed.{named_mailbox, WellFormedRows, WellFormed, KeptWellFormed, EmptyWellFormed}
use Rattle.model.specs.WaitQueues.{standing_in, by_priority}
use Rattle.model.proofs.Step.{step_tick, step_call, run_refused, run_accepted}
use Rattle.model.proofs.Accepted.{passes, accepted}
use Rattle.model.proofs.KeptCalls.{Valid, kept_accepted}
use Rattle.model.proofs.KeptTick.{kept_tick}
use Rattle.model.proofs.KeptEnds.{kept_ends}

-- ── Kept ──

-- A call's program leaves well-formed rows.
kept_program : (m : Model) (c : Call) → WellFormed m → WellFormedRows (run same_key (program m.environment c) m.rows).state
kept_program m c w = go (refused (view_of m c) c) (λ r. r) (λ r. r)
  where
    go : (b : Bool) → (T b → T (refused (view_of m c) c)) → (T (not b) → T (not (refused (view_of m c) c)))
        → WellFormedRows (run same_key (program m.environment c) m.rows).state
    go true yes_case no_case = rw (run_refused m c (yes_case tt)) w.rows
    go false yes_case no_case = let ok = no_case tt in
        rw (run_accepted m c ok)
        (kept_accepted m c w.rows (accepted Valid (view_of m c) c (each_of_all (λ k t. t) _) ok) (passes (view_of m c) c ok)).holds

kept_rows : (m : Model) (c : Call) → WellFormed m → (b : Bool) → (T b → T (eqb c.number 0)) → (T (not b) → T (not (eqb c.number 0)))
    → ((step m c).state.environment.counter < counter_span) × WellFormedRows (step m c).state.rows
unfolding step_of tick
kept_rows m c w true is_tick is_call = rw (step_tick m c (is_tick tt)) (omega arith, kept_tick m w.rows)
kept_rows m c w false is_tick is_call = rw (step_call m c (is_call tt)) (w.counter_in_range, kept_program m c w)

pub kept_well_formed : KeptWellFormed
kept_well_formed m c w =
    let k = kept_rows m c w (eqb c.number 0) (λ t. t) (λ t. t) in
    record { counter_in_range = k.0; rows = k.1; ends = λ t. kept_ends m c t w }

-- ── The empty model ──

pub empty_well_formed : EmptyWellFormed
unfolding empty one_of
empty_well_formed counter inside = record {
  counter_in_range = inside;
  rows = record {
    in_range = λ k n. refl;
    tasks = λ t. record { undefined = λ n. refl; priority_in_range = λ d. absurd d; object_in_range = tt; code = tt };
    suspensions = λ t s. absurd s;
    queues = λ q. record {
      undefined = λ n. (refl, refl, refl);
      attribute_in_range = omega arith;
      capacity_in_range = omega arith;
      count = omega arith;
      senders = λ s. absurd s;
      receivers = λ r. absurd r;
    };
    mailboxes = λ b. record { undefined = λ n. (refl, refl); attribute_in_range = omega arith; highest_in_range = λ p. absurd p; waiters = λ s. absurd s };
    waiting = stands_nowhere no_task_waits (λ t. refl);
    waiting_in_order = in_order;
    queued = stands_nowhere (λ b. refl) (λ g. refl);
    queued_in_order = λ b p. no_key;
  };
  ends = λ t. tt;
}
  where
    no_task_waits : (d : WaitQueue) → standing_in no_rows d ≡ []
    no_task_waits (senders_of q) = refl
    no_task_waits (receivers_of q) = refl
    no_task_waits (waiters_of b) = refl

    in_order : (d : WaitQueue) → T (by_priority no_rows d) → InOrder 1 priority_limit (map (λ t. no_task.priority) (standing_in no_rows d))
    in_order (senders_of q) p = no_key
    in_order (receivers_of q) p = no_key
    in_order (waiters_of b) p = no_key

-- ── Linked ──

waits_at : (x : Wait) (c : WaitQueue) → wait_queue x ≡ some c → WaitsAt (object_of c) x
waits_at x c e = ap (Option.map object_of) e

queued_at : (x : MessageRow) (b : ℕ) → named_mailbox x ≡ some b → QueuedAt b x
queued_at x b = go (eqb x.queued_in 0) (λ n. n)
  where
    go : (k : Bool) → (T (not k) → T (not (eqb x.queued_in 0))) → cond k none (some x.queued_in) ≡ some b → QueuedAt b x
    go true h e = absurd (none-ne-some b e)
    go false h e = let here = some-injective x.queued_in b e in record { queued_here = here; a_mailbox = subst (λ n. T (not (eqb n 0))) here (h tt) }

pub well_formed_linked : WellFormedLinked
well_formed_linked m w = record {
  senders = λ q. each_member _ (λ t i. waits_at (m.rows (task t)).wait (senders_of q) (w.rows.waiting.no_other t (senders_of q) i));
  receivers = λ q. each_member _ (λ t i. waits_at (m.rows (task t)).wait (receivers_of q) (w.rows.waiting.no_other t (receivers_of q) i));
  waiters = λ b. each_member _ (λ t i. waits_at (m.rows (task t)).wait (waiters_of b) (w.rows.waiting.no_other t (waiters_of b) i));
  messages = λ b. each_member _ (λ g i. queued_at (m.rows (message g)) b (w.rows.queued.no_other g b i));
}
