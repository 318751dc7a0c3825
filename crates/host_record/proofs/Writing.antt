-- The numbers of all tasks, written one after the other; and of one alone. By what an array holds where it was changed, and elsewhere.
use mathlib.Core.Path.{◌≡◌, refl, sym, ap, ◌∙◌, subst}
use mathlib.Core.List.{List}
use Prim.Native.Nat.{ℕ, ◌+◌, ◌<◌, ◌≤◌}
use native.Mathlib.Omega.{arith}
use native.Mathlib.Decide.{ℕ_discrete}
use lib.ListN.{length, get_or, set, length-set}
use lib.Seq.{get_or-set_same, get_or-set_other}
use Rattle.model.specs.Sizes.{task_limit}
use Rattle.model.proofs.Tests.{from_within}
use Rattle.std.specs.Prelude.{Option, Some, None, Bool, true, false, T}
use Rattle.decide.specs.declared.Touched.{Touched}
use Rattle.decide.specs.declared.Touched.TheVariants.{NoTask, OneTask, EveryTask}
use Rattle.parts.specs.declared.Task.{Task}
use Rattle.host_tasks.specs.Tasks.{read_task, write_task}
use Rattle.host_tasks.specs.declared.HostTask.{HostTask}
use Rattle.host_tasks.proofs.Faithful.{task_again}
use Rattle.record.specs.Meaning.{zero_task}
use Rattle.host_record.specs.Written.{zero_numbers, number_written, TasksWritten}

-- Those below t are written.
pub record SoFar (before : List HostTask) (tasks : List Task) (numbers : List HostTask) (t : ℕ) : Type 0 where
  pub size : length numbers ≡ 33
  pub above : 1 ≤ t
  pub within : t ≤ 33
  pub written : (i : ℕ) → 1 ≤ i → i < t → read_task (get_or numbers i zero_numbers) ≡ get_or tasks i zero_task

pub begins : {numbers : List HostTask} {tasks : List Task} → length numbers ≡ 33 → SoFar numbers tasks numbers 1
begins size = record { size = size; above = omega arith; within = omega arith; written = λ i low high. absurd (omega (arith, low, high)) }

-- A task that is written is read again.
module _ (numbers : List HostTask) (tasks : List Task) (t : ℕ) {y : HostTask} (size : length numbers ≡ 33) (small : t < 33) (e : y ≡ write_task (get_or tasks t zero_task)) where
  here_written : read_task (get_or (set numbers t y) t zero_numbers) ≡ get_or tasks t zero_task
  here_written = ap read_task (get_or-set_same numbers t y zero_numbers (subst (λ n. t < n) (sym size) small)) ∙ (ap read_task e ∙ task_again (get_or tasks t zero_task))

pub one_more : {before numbers : List HostTask} {tasks : List Task} {t : ℕ} {y : HostTask} → SoFar before tasks numbers t → t < 33 → y ≡ write_task (get_or tasks t zero_task)
    → SoFar before tasks (set numbers t y) (t + 1)
one_more {numbers = numbers} {tasks} {t} {y} s small e = record {
  size = length-set numbers t y ∙ s.size;
  above = let a = s.above in omega arith;
  within = omega arith;
  written = λ i low high. elim (ℕ_discrete i t) [
    | yes same ↦ rw same (here_written numbers tasks t s.size small e)
    | no other ↦ ap read_task (get_or-set_other numbers t i y zero_numbers other) ∙ s.written i low (omega arith)
  ];
}

pub all_written : {before numbers : List HostTask} {tasks : List Task} {t : ℕ} → SoFar before tasks numbers t → 33 ≤ t → TasksWritten before tasks EveryTask numbers
all_written {t = t} s all = record {
  size = s.size;
  written = λ i v h. let r = from_within 1 task_limit i v in s.written i r.0 (omega arith);
  kept = λ i n. absurd (n tt);
}

number_in : ℕ → Option ℕ → ℕ
number_in d None = d
number_in d (Some n) = n

is_number : Option ℕ → Bool
is_number None = false
is_number (Some n) = true

none_is : {n : ℕ} → None ≡ Some n → ⊥
unfolding is_number
none_is e = subst T (ap is_number (sym e)) tt

-- One number is written: that of one task, or number 0 where there is none.
module _ {numbers : List HostTask} {tasks : List Task} (size : length numbers ≡ 33) where
  here : (one : ℕ) {y : HostTask} → one < 33 → y ≡ write_task (get_or tasks one zero_task) → TasksWritten numbers tasks (OneTask one) (set numbers one y)
  here one {y} small e = record {
    size = length-set numbers one y ∙ size;
    written = λ t v same. rw same (here_written numbers tasks one size small e);
    kept = λ t n. get_or-set_other numbers one t y zero_numbers n;
  }

  nobody : (y : HostTask) → TasksWritten numbers tasks NoTask (set numbers 0 y)
  nobody y = record {
    size = length-set numbers 0 y ∙ size;
    written = λ t v none. absurd none;
    kept = λ t n. get_or-set_other numbers 0 t y zero_numbers n;
  }

  pub one_written : (touched : Touched) (one : ℕ) {y : HostTask} → number_written touched ≡ Some one → one < 33 → y ≡ write_task (get_or tasks one zero_task)
      → TasksWritten numbers tasks touched (set numbers one y)
  unfolding number_in
  one_written NoTask one {y} is small e = subst (λ n. TasksWritten numbers tasks NoTask (set numbers n y)) (ap (number_in one) is) (nobody y)
  one_written (OneTask u) one {y} is small e =
      subst (λ n. TasksWritten numbers tasks (OneTask n) (set numbers one y)) (sym (ap (number_in one) is)) (here one small e)
  one_written EveryTask one {y} is small e = absurd (none_is is)

  pub outside_written : (touched : Touched) (one : ℕ) → number_written touched ≡ Some one → 33 ≤ one → TasksWritten numbers tasks touched numbers
  unfolding number_in
  outside_written NoTask one is large = let zero : 0 ≡ one = ap (number_in one) is in absurd (omega (arith, zero, large))
  outside_written (OneTask u) one is large = record {
    size = size;
    written = λ t v same. let r = from_within 1 task_limit t v in let u_is : u ≡ one = ap (number_in one) is in absurd (omega (arith, r.1, same, u_is, large));
    kept = λ t n. refl;
  }
  outside_written EveryTask one is large = absurd (none_is is)
