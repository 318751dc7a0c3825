-- What is known of a sound record's wait queues, and what becomes of its meaning where one of them and a task's row change: by the laws of the record.
use mathlib.Core.Path.{◌≡◌, refl, sym, ap, ◌∙◌, subst}
use mathlib.Core.Bool.{Bool, true, false, not}
use mathlib.Core.List.{List, [], ◌∷◌, head_d, Memᴰ as In}
use mathlib.Core.Logic.{◌≢◌}
use Prim.Native.Nat.{ℕ, ◌<◌}
use lib.Dec.{T}
use lib.ListN.{get_or}
use Rattle.lists.specs.Lists.{empty}
use Rattle.rows.specs.Program as Program
use Rattle.rows.specs.Program.{update}
use Rattle.chain.specs.Changes.{HasChain, Changed}
use Rattle.model.specs.Sizes.{task_limit, counter_span}
use Rattle.model.specs.Rows.{task, same_key, valid, Row, TaskRow}
use Rattle.model.specs.Waits.{wait_end, starting, ended, WaitQueue, object_of}
use Rattle.model.specs.WellFormed.{EndAhead, WellFormedRows}
use Rattle.model.specs.WaitQueues.{standing_in, set_standing}
use Rattle.model.specs.declared.Code.{Code}
use Rattle.model.specs.declared.Wait.{Wait}
use Rattle.model.specs.declared.Wait.TheVariants.{NoWait}
use Rattle.parts.specs.Chains.{task_chains, chain_number, tasks_in}
use Rattle.parts.specs.Tasks.{task_row, read_code, with_wait_ended, with_wait_started}
use Rattle.parts.specs.declared.Task.{Task}
use Rattle.parts.proofs.Empty.{chain_zero}
use Rattle.record.specs.declared.State.{State}
use Rattle.record.specs.Meaning.{task_at, abs}
use Rattle.record.specs.Sound.{Readable, Sound}
use Rattle.record.specs.Step.{Becomes}
use Rattle.waits.specs.Waiting.{chain_list, ChainOf, OnChain, Releasable}
use Rattle.record.proofs.Standing.{standing_is, in_chain}
use Rattle.record.proofs.Keys.{waits_defined}
use Rattle.record.proofs.Laws.{with_task, with_waiting, counter_is, task_changed, waiting_changed, and_then, meaning}

-- ── What is known of a sound record ──

-- Its rows are well-formed.
pub rows_of : {s : State} → Sound s → WellFormedRows (abs s).rows
unfolding abs
rows_of S = S.well_formed.rows

pub counter_inside : {s : State} → Sound s → s.counter < counter_span
unfolding abs
counter_inside S = S.well_formed.counter_in_range

pub end_ahead : {s : State} → Sound s → (t : ℕ) → EndAhead s.counter (wait_end ((abs s).rows (task t)).wait)
unfolding abs
end_ahead S = S.well_formed.ends

-- What becomes of a sound record is sound where its rows are well-formed and its end ticks ahead.
pub becomes_sound : {s r : State} {m : Program.Rows Row} → Sound s → Becomes s m r → WellFormedRows (abs r).rows → ((t : ℕ) → EndAhead s.counter (wait_end ((abs r).rows (task t)).wait)) → Sound r
unfolding abs
becomes_sound {s} {r} S b w ends = record {
  readable = b.readable;
  well_formed = record { counter_in_range = rw (counter_is b) (counter_inside S); rows = w; ends = λ t. subst (λ n. EndAhead n (wait_end ((abs r).rows (task t)).wait)) (sym (counter_is b)) (ends t) };
}

-- The table of waiting tasks has the chain.
pub has_chain : {s : State} {chain : ℕ} → OnChain s chain → HasChain task_limit task_chains chain s.waiting.link
has_chain o = record { sound = o.sound.readable.waiting; low = o.low; high = o.high }

-- The tasks in a wait queue are those in its chain.
pub standing_chain : (s : State) (k : WaitQueue) → T (valid (object_of k)) → standing_in (abs s).rows k ≡ chain_list s (chain_number k)
unfolding tasks_in
standing_chain s k v = standing_is s k v

-- A list whose first number isn't 0 has a head.
pub some_head : {first : ℕ} (l : List ℕ) → first ≡ head_d l 0 → first ≢ 0 → T (not (empty l))
unfolding head_d empty
some_head [] e f = f e
some_head (x ∷ l) e f = tt

-- What a chain's first number says of its wait queue.
module _ {s : State} {chain : ℕ} (a : OnChain s chain) (k : WaitQueue) (o : ChainOf k chain) where
  pub chain_of_queue : standing_in (abs s).rows k ≡ chain_list s chain
  chain_of_queue = standing_chain s k o.valid_object ∙ ap (chain_list s) o.chain_is

  pub nobody_waits : {first : ℕ} → first ≡ head_d (chain_list s chain) 0 → first ≡ 0 → standing_in (abs s).rows k ≡ []
  nobody_waits first_is none = chain_of_queue ∙ (chain_zero (has_chain a) first_is).then_empty none

  pub releasable : T (not (empty (standing_in (abs s).rows k))) → Releasable s chain
  releasable f = record { on = a; someone = rw chain_of_queue at f }

-- Whoever stands in a wait queue is a defined task.
module _ {s : State} (S : Sound s) (k : WaitQueue) {t : ℕ} (i : In t (standing_in (abs s).rows k)) where
  pub waiter_valid : T (valid (task t))
  waiter_valid = (in_chain s S.readable.waiting k i).1

  pub waiter_defined : T (task_at s t).defined
  waiter_defined = waits_defined s t k waiter_valid ((rows_of S).tasks t) ((rows_of S).waiting.no_other t k i)

-- The rows of a defined task whose wait ended, with the number of this code, and of one whose wait starts.
module _ (x : Task) (priority : ℕ) (d : T x.defined) where
  pub ended_row : (number : ℕ) {code : Code} → read_code number ≡ code → (word : ℕ) → task_row (with_wait_ended number word x) priority ≡ ended code word (task_row x priority)
  ended_row number {code} e word = go x.defined d
    where
      go : (b : Bool) → T b → task_row (record { wait = NoWait; word = word; code = number; defined = b; suspended = x.suspended }) priority
          ≡ ended code word (task_row (record { wait = x.wait; word = x.word; code = x.code; defined = b; suspended = x.suspended }) priority)
      go true t = rw e refl
      go false t = absurd t

  pub started_row : (wait : Wait) → task_row (with_wait_started wait x) priority ≡ starting wait (task_row x priority)
  unfolding read_code
  started_row wait = go x.defined d
    where
      go : (b : Bool) → T b → task_row (record { wait = wait; word = 0; code = 0; defined = b; suspended = x.suspended }) priority
          ≡ starting wait (task_row (record { wait = x.wait; word = x.word; code = x.code; defined = b; suspended = x.suspended }) priority)
      go true t = refl
      go false t = absurd t

-- ── A wait queue and a task's row change ──

-- The chain of k became l and task t's record y.
module _ {s : State} (R : Readable s) (k : WaitQueue) (ok : T (valid (object_of k))) (link l : List ℕ)
    (d : Changed task_limit task_chains (chain_number k) s.waiting.link link l) (t : ℕ) (valid_task : T (valid (task t))) (y : Task) where
  pub wait_changed : (row : TaskRow) → y.suspended ≡ (task_at s t).suspended → task_row y (get_or s.waiting.key t 0) ≡ row
      → Becomes s (update same_key (task t) row (set_standing k l (abs s).rows)) (with_task t y (with_waiting link s))
  wait_changed row e f =
      let a = waiting_changed R k ok link l d in
      meaning (ap (λ (z : TaskRow). update same_key (task t) z (abs (with_waiting link s)).rows) f ∙ ap (update same_key (task t) row) a.rows_are)
      (and_then a (task_changed a.readable t valid_task y e))
