-- A record with other numbers for its tasks means what the state means, if each task's row is as it was: row by row.
use mathlib.Core.Path.{◌≡◌, refl, sym, ap, ◌∙◌, subst, fun_ext}
use mathlib.Core.Bool.{Bool, cond}
use mathlib.Core.List.{List, map}
use mathlib.Core.Logic.{◌⊎◌, inl, inr}
use Prim.Native.Nat.{ℕ}
use native.Mathlib.Omega.{arith}
use native.Mathlib.Decide.{ℕ_discrete}
use lib.Dec.{T}
use lib.ListN.{length, length-map, get_or, get_or-map, replicate}
use Rattle.model.specs.Rows.{Key, task, suspension, queue, mailbox, message, valid, TaskRow, Model, empty_state}
use Rattle.model.specs.Sizes.{task_limit}
use Rattle.model.proofs.Tests.{from_within}
use Rattle.model.specs.Engine.{Lawful}
use Rattle.model.specs.WellFormed.{WellFormed}
use Rattle.lists.proofs.Reading.{all_same}
use Rattle.decide.specs.Touches.{Covers, SameTask}
use Rattle.decide.specs.declared.Touched.{Touched}
use Rattle.decide.specs.declared.Touched.TheVariants.{NoTask, OneTask, EveryTask}
use Rattle.parts.specs.Tasks.{task_row}
use Rattle.parts.specs.declared.Task.{Task}
use Rattle.host_tasks.specs.Tasks.{wait_of, read_task}
use Rattle.record.specs.declared.State.{State}
use Rattle.record.specs.Meaning.{zero_task, task_at, cells_of, abs}
use Rattle.record.specs.Sound.{Readable, Sound}
use Rattle.record.proofs.Rows.{row_is}
use Rattle.record.proofs.Laws.{same_row, same_environment}
use Rattle.record.proofs.Equal.{state_lawful}
use Rattle.host_record.specs.declared.HostRecord.{HostRecord}
use Rattle.host_record.specs.Record.{state_of, host_engine}
use Rattle.host_record.specs.Written.{zero_numbers, Writes, Written}

-- The demands' theorems hold of a host's record: what it means and when it is sound are its state's.
pub host_lawful : Lawful host_engine
host_lawful = record { well_formed = λ r S. state_lawful.well_formed (state_of r) S; equal_states = λ r u S U. state_lawful.equal_states (state_of r) (state_of u) S U }

-- What a task's numbers are read as.
pub task_read : (r : HostRecord) (t : ℕ) → task_at (state_of r) t ≡ read_task (get_or r.tasks t zero_numbers)
unfolding state_of read_task wait_of
task_read r t = get_or-map read_task r.tasks t zero_numbers

-- ── Other tasks in a state ──

abbrev pub with_tasks : List Task → State → State
with_tasks tasks s = record { counter = s.counter; tasks = tasks; queues = s.queues; waiting = s.waiting; messages = s.messages; mailboxes = s.mailboxes }

module _ (s : State) (tasks : List Task) (size : length tasks ≡ 33)
    (rows : (t : ℕ) → T (valid (task t)) → cells_of (with_tasks tasks s) (task t) ≡ cells_of s (task t))
    (suspensions : (t : ℕ) → T (valid (task t)) → cells_of (with_tasks tasks s) (suspension t) ≡ cells_of s (suspension t)) where
  other_tasks_mean : abs (with_tasks tasks s) ≡ abs s
  other_tasks_mean = λ i. record { environment = same_environment s (with_tasks tasks s) refl i; rows = fun_ext same i }
    where
      same : (k : Key) → (abs (with_tasks tasks s)).rows k ≡ (abs s).rows k
      same (task t) = same_row s (with_tasks tasks s) (task t) (rows t)
      same (suspension t) = same_row s (with_tasks tasks s) (suspension t) (suspensions t)
      same (queue q) = same_row s (with_tasks tasks s) (queue q) (λ v. refl)
      same (mailbox b) = same_row s (with_tasks tasks s) (mailbox b) (λ v. refl)
      same (message g) = same_row s (with_tasks tasks s) (message g) (λ v. refl)

  other_tasks_readable : Readable s → Readable (with_tasks tasks s)
  other_tasks_readable R = record {
    sizes = record { tasks = size; queues = R.sizes.queues; mailboxes = R.sizes.mailboxes; task_keys = R.sizes.task_keys; message_keys = R.sizes.message_keys };
    waiting = R.waiting;
    messages = R.messages;
    queues = R.queues;
    mailboxes = R.mailboxes;
  }

-- A task's row with its own numbers and another record's priority, where both rows are the same.
same_but_key : (x y : Task) (p q : ℕ) → task_row x p ≡ task_row y q → task_row y p ≡ task_row x p
same_but_key x y p q e =
    let d = ap (λ (z : TaskRow). z.defined) e in
    λ i. record {
      defined = sym d i;
      priority = ap (λ (b : Bool). cond b p 0) (sym d) i;
      wait = ap (λ (z : TaskRow). z.wait) (sym e) i;
      code = ap (λ (z : TaskRow). z.code) (sym e) i;
      word = ap (λ (z : TaskRow). z.word) (sym e) i;
    }

-- ── What is written back ──

-- Whether a task is among those that were touched.
covered : (r : Touched) (t : ℕ) → Covers r t ⊎ (Covers r t → ⊥)
covered NoTask t = inr (λ e. e)
covered (OneTask u) t = elim (ℕ_discrete t u) [
  | yes e ↦ inl e
  | no n ↦ inr n
]
covered EveryTask t = inl tt

-- The numbers of a task that wasn't touched aren't written.
unwritten : (r : Touched) (t : ℕ) → T (valid (task t)) → (Covers r t → ⊥) → Writes r t → ⊥
unwritten NoTask t v n = λ e. let r = from_within 1 task_limit t v in omega (arith, r.0, e)
unwritten (OneTask u) t v n = n
unwritten EveryTask t v n = n

-- The record before holds s₀, and the touched tasks of s were written: whatever wasn't touched is in s as it was in s₀.
module _ {before r : HostRecord} {s : State} {touched : Touched} (w : Written before s touched r)
    (untouched : (t : ℕ) → (Covers touched t → ⊥) → SameTask (abs (state_of before)) (abs s) t) where
  abbrev tasks : List Task
  tasks = map read_task r.tasks

  state_is : state_of r ≡ with_tasks tasks s
  unfolding state_of
  state_is = λ i. record { counter = w.counter i; tasks = tasks; queues = w.queues i; waiting = w.waiting i; messages = w.messages i; mailboxes = w.mailboxes i }

  touched_is : (t : ℕ) → T (valid (task t)) → Covers touched t → task_at (with_tasks tasks s) t ≡ task_at s t
  unfolding read_task wait_of
  touched_is t v h = get_or-map read_task r.tasks t zero_numbers ∙ w.tasks.written t v h

  untouched_is : (t : ℕ) → T (valid (task t)) → (Covers touched t → ⊥) → task_at (with_tasks tasks s) t ≡ task_at (state_of before) t
  unfolding read_task wait_of
  untouched_is t v n = get_or-map read_task r.tasks t zero_numbers ∙ (ap read_task (w.tasks.kept t (unwritten touched t v n)) ∙ sym (task_read before t))

  -- Each task has the row, and the suspension, that it has in s.
  module _ (t : ℕ) (v : T (valid (task t))) where
    row_kept : (Covers touched t → ⊥) → cells_of (with_tasks tasks s) (task t) ≡ cells_of s (task t)
    row_kept n =
        let same : cells_of s (task t) ≡ cells_of (state_of before) (task t) = sym (row_is s (task t) v) ∙ ((untouched t n).row ∙ row_is (state_of before) (task t) v) in
        ap (λ (x : Task). task_row x (get_or s.waiting.key t 0)) (untouched_is t v n) ∙ same_but_key (task_at s t) (task_at (state_of before) t) (get_or s.waiting.key t 0) (get_or (state_of before).waiting.key t 0) same

    suspension_kept : (Covers touched t → ⊥) → cells_of (with_tasks tasks s) (suspension t) ≡ cells_of s (suspension t)
    suspension_kept n =
        ap (λ (x : Task). x.suspended) (untouched_is t v n)
        ∙ (sym (row_is (state_of before) (suspension t) v) ∙ (sym (untouched t n).suspended ∙ row_is s (suspension t) v))

    by_touch : {P : Type 0} → (Covers touched t → P) → ((Covers touched t → ⊥) → P) → P
    by_touch yes_case no_case = elim (covered touched t) [
      | inl e ↦ yes_case e
      | inr n ↦ no_case n
    ]

    row_same : cells_of (with_tasks tasks s) (task t) ≡ cells_of s (task t)
    row_same = by_touch (λ h. ap (λ (x : Task). task_row x (get_or s.waiting.key t 0)) (touched_is t v h)) row_kept

    suspension_same : cells_of (with_tasks tasks s) (suspension t) ≡ cells_of s (suspension t)
    suspension_same = by_touch (λ h. ap (λ (x : Task). x.suspended) (touched_is t v h)) suspension_kept

  size : length tasks ≡ 33
  size = length-map r.tasks read_task ∙ w.tasks.size

  pub written_means : abs (state_of r) ≡ abs s
  written_means = ap abs state_is ∙ other_tasks_mean s tasks size row_same suspension_same

  pub written_readable : Readable s → Readable (state_of r)
  written_readable R = subst Readable (sym state_is) (other_tasks_readable s tasks size row_same suspension_same R)

-- ── The empty record ──

module _ {s : State} (S : Sound s) (e : abs s ≡ empty_state 0) where
  abbrev none : List Task
  none = map read_task (replicate 33 zero_numbers)

  none_at : (t : ℕ) → task_at (with_tasks none s) t ≡ zero_task
  unfolding read_task wait_of
  none_at t = get_or-map read_task (replicate 33 zero_numbers) t zero_numbers ∙ ap read_task (all_same zero_numbers 33 t)

  none_row : (t : ℕ) → T (valid (task t)) → cells_of (with_tasks none s) (task t) ≡ cells_of s (task t)
  none_row t v = ap (λ (x : Task). task_row x (get_or s.waiting.key t 0)) (none_at t) ∙ (sym (ap (λ (m : Model). m.rows (task t)) e) ∙ row_is s (task t) v)

  none_suspended : (t : ℕ) → T (valid (task t)) → cells_of (with_tasks none s) (suspension t) ≡ cells_of s (suspension t)
  none_suspended t v = ap (λ (x : Task). x.suspended) (none_at t) ∙ (sym (ap (λ (m : Model). m.rows (suspension t)) e) ∙ row_is s (suspension t) v)

  none_size : length none ≡ 33
  none_size = length-map (replicate 33 zero_numbers) read_task

  pub empty_means : abs (with_tasks none s) ≡ empty_state 0
  empty_means = other_tasks_mean s none none_size none_row none_suspended ∙ e

  pub empty_sound : Sound (with_tasks none s)
  empty_sound = record {
    readable = other_tasks_readable s none none_size none_row none_suspended S.readable;
    well_formed = subst WellFormed (sym (other_tasks_mean s none none_size none_row none_suspended)) S.well_formed;
  }
