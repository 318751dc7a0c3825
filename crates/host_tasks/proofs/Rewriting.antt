-- Numbers written over others read as the task, and stay where they did so already; and those of an array, one after the other.
use mathlib.Core.Path.{◌≡◌, refl, sym, ap, ◌∙◌, subst}
use mathlib.Core.Bool.{Bool, true, false, cond, ◌&&◌, and_assoc}
use mathlib.Core.List.{List, [], ◌∷◌, map}
use Prim.Native.Nat.{ℕ, zero, suc, ◌+◌, ◌<◌, ◌≤◌}
use native.Mathlib.Nat.{suc_inj, le_of_suc-le-suc, not-suc-le-zero}
use native.Mathlib.Omega.{arith}
use native.Mathlib.Decide.{ℕ_discrete}
use lib.Dec.{eqb}
use lib.ListN.{length, get_or, set, length-set}
use lib.Seq.{get_or-set_same, get_or-set_other, ext_get_or}
use Rattle.lists.specs.Tests.{Whether, holds, fails}
use Rattle.lists.proofs.Tests.{is_map, is_eqb, is_and}
use Rattle.parts.specs.declared.Task.{Task}
use Rattle.host_tasks.specs.Tasks.{read_task, write_task, same_numbers, rewritten, rewrite_all}
use Rattle.host_tasks.specs.declared.HostTask.{HostTask}
use Rattle.host_tasks.proofs.Faithful.{task_again}

-- ── One task ──

is_same : (x y : HostTask) → Whether (x ≡ y) (same_numbers x y)
is_same x y =
    is_map
    (λ e i. record {
      word = e.0.0.0.0.0.0.0 i;
      end = e.0.0.0.0.0.0.1 i;
      sending = e.0.0.0.0.0.1 i;
      wait = e.0.0.0.0.1 i;
      object = e.0.0.0.1 i;
      timed = e.0.0.1 i;
      code = e.0.1 i;
      flags = e.1 i;
    })
    (λ e. (((((((ap (λ (z : HostTask). z.word) e, ap (λ (z : HostTask). z.end) e), ap (λ (z : HostTask). z.sending) e), ap (λ (z : HostTask). z.wait) e), ap (λ (z : HostTask). z.object) e), ap (λ (z : HostTask). z.timed) e), ap (λ (z : HostTask). z.code) e), ap (λ (z : HostTask). z.flags) e))
    (is_and (is_and (is_and (is_and (is_and (is_and (is_and (is_eqb _ _) (is_eqb _ _)) (is_eqb _ _)) (is_eqb _ _)) (is_eqb _ _)) (is_eqb _ _)) (is_eqb _ _)) (is_eqb _ _))

-- The derived `==` asks the same, grouped from the right.
pub by_eq : {b : Bool} (x y : HostTask)
    → b ≡ eqb x.word y.word && (eqb x.end y.end && (eqb x.sending y.sending && (eqb x.wait y.wait && (eqb x.object y.object && (eqb x.timed y.timed && (eqb x.code y.code && eqb x.flags y.flags))))))
    → b ≡ same_numbers x y
by_eq x y e = simp (e, and_assoc)

pub reads_again : (x : HostTask) (t : Task) → read_task (rewritten x t) ≡ t
unfolding rewritten
reads_again x t = go (is_same (write_task t) (write_task (read_task x)))
  where
    go : {b : Bool} → Whether (write_task t ≡ write_task (read_task x)) b → read_task (cond b x (write_task t)) ≡ t
    go (holds e) = sym (task_again (read_task x)) ∙ (ap read_task (sym e) ∙ task_again t)
    go (fails n) = task_again t

pub stays_so : (x : HostTask) → rewritten x (read_task x) ≡ x
unfolding rewritten
stays_so x = go (is_same (write_task (read_task x)) (write_task (read_task x)))
  where
    go : {b : Bool} → Whether (write_task (read_task x) ≡ write_task (read_task x)) b → cond b x (write_task (read_task x)) ≡ x
    go (holds e) = refl
    go (fails n) = absurd (n refl)

-- By the test, of numbers that are what is written and what would have been written before.
module _ (x : HostTask) (t : Task) {new old : HostTask} {read : Task} {b : Bool} (new_is : new ≡ write_task t) (read_is : read ≡ read_task x) (old_is : old ≡ write_task read) (b_is : b ≡ same_numbers new old) where
  tests : b ≡ same_numbers (write_task t) (write_task (read_task x))
  tests = b_is ∙ (ap (λ z. same_numbers z old) new_is ∙ ap (same_numbers (write_task t)) (old_is ∙ ap write_task read_is))

  pub kept_numbers : b ≡ true → x ≡ rewritten x t
  unfolding rewritten
  kept_numbers e = ap (λ z. cond z x (write_task t)) (sym e ∙ tests)

  pub new_numbers : b ≡ false → new ≡ rewritten x t
  unfolding rewritten
  new_numbers e = new_is ∙ ap (λ z. cond z x (write_task t)) (sym e ∙ tests)

-- ── All tasks ──

pub all_read_again : (xs : List HostTask) (ts : List Task) → length xs ≡ length ts → map read_task (rewrite_all xs ts) ≡ ts
unfolding rewrite_all
all_read_again [] [] e = refl
all_read_again [] (t ∷ ts) e = absurd (omega (arith, e))
all_read_again (x ∷ xs) [] e = absurd (omega (arith, e))
all_read_again (x ∷ xs) (t ∷ ts) e = λ i. reads_again x t i ∷ all_read_again xs ts (suc_inj e) i

pub all_stay_so : (xs : List HostTask) → rewrite_all xs (map read_task xs) ≡ xs
unfolding rewrite_all
all_stay_so [] = refl
all_stay_so (x ∷ xs) = λ i. stays_so x i ∷ all_stay_so xs i

as_many : (xs : List HostTask) (ts : List Task) → length (rewrite_all xs ts) ≡ length xs
unfolding rewrite_all
as_many [] ts = refl
as_many (x ∷ xs) [] = refl
as_many (x ∷ xs) (t ∷ ts) = ap suc (as_many xs ts)

at_place : (xs : List HostTask) (ts : List Task) (k : ℕ) (d : HostTask) (e : Task) → k < length xs → k < length ts → get_or (rewrite_all xs ts) k d ≡ rewritten (get_or xs k d) (get_or ts k e)
unfolding rewrite_all
at_place [] ts k d e l m = absurd (not-suc-le-zero l)
at_place (x ∷ xs) [] k d e l m = absurd (not-suc-le-zero m)
at_place (x ∷ xs) (t ∷ ts) zero d e l m = refl
at_place (x ∷ xs) (t ∷ ts) (suc k) d e l m = at_place xs ts k d e (le_of_suc-le-suc l) (le_of_suc-le-suc m)

-- The loop: those below k are written, the others are as they were.
pub record SoFar (d : HostTask) (before : List HostTask) (tasks : List Task) (numbers : List HostTask) (k : ℕ) : Type 0 where
  pub before_size : length before ≡ 33
  pub tasks_size : length tasks ≡ 33
  pub size : length numbers ≡ 33
  pub within : k ≤ 33
  pub written : (i : ℕ) → i < k → get_or numbers i d ≡ get_or (rewrite_all before tasks) i d
  pub kept : (i : ℕ) → k ≤ i → get_or numbers i d ≡ get_or before i d

pub begins : (d : HostTask) {numbers : List HostTask} {tasks : List Task} → length numbers ≡ 33 → length tasks ≡ 33 → SoFar d numbers tasks numbers 0
begins d e f = record { before_size = e; tasks_size = f; size = e; within = omega arith; written = λ i l. absurd (not-suc-le-zero l); kept = λ i l. refl }

pub one_more : (d : HostTask) (e : Task) {before numbers : List HostTask} {tasks : List Task} {k : ℕ} {y : HostTask} → SoFar d before tasks numbers k → k < 33 → y ≡ rewritten (get_or numbers k d) (get_or tasks k e)
    → SoFar d before tasks (set numbers k y) (k + 1)
one_more d e {before} {numbers} {tasks} {k} {y} s small is = record {
  before_size = s.before_size;
  tasks_size = s.tasks_size;
  size = length-set numbers k y ∙ s.size;
  within = omega arith;
  written = λ i l. elim (ℕ_discrete i k) [
    | yes same ↦ rw same
        (get_or-set_same numbers k y d (subst (λ n. k < n) (sym s.size) small)
        ∙ (is ∙ (ap (λ x. rewritten x (get_or tasks k e)) (s.kept k (omega arith))
        ∙ sym (at_place before tasks k d e (subst (λ n. k < n) (sym s.before_size) small) (subst (λ n. k < n) (sym s.tasks_size) small)))))
    | no other ↦ get_or-set_other numbers k i y d other ∙ s.written i (omega arith)
  ];
  kept = λ i l. get_or-set_other numbers k i y d (λ same. omega (arith, l, same)) ∙ s.kept i (omega arith);
}

pub all_written : {d : HostTask} {before numbers : List HostTask} {tasks : List Task} {k : ℕ} → SoFar d before tasks numbers k → 33 ≤ k → numbers ≡ rewrite_all before tasks
all_written {d} {before} {numbers} {tasks} {k} s all =
    ext_get_or d numbers (rewrite_all before tasks) (s.size ∙ (sym s.before_size ∙ sym (as_many before tasks)))
    (λ i l. s.written i (let z : length numbers ≡ 33 = s.size in omega (arith, z, l, all)))
