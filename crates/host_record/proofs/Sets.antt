-- A set of tasks is made from the last task to the first.
use mathlib.Core.Path.{◌≡◌, refl, sym, ap, ap₂, ◌∙◌}
use mathlib.Core.Bool.{Bool, cond, not, ◌&&◌, true, false}
use Prim.Native.Nat.{ℕ, zero, suc, ◌+◌, ◌-◌, ◌*◌, ◌^◌, ◌≤◌, ◌<◌}
use native.Mathlib.Nat.{pow-suc, lt_of_lt_of_le}
use native.Mathlib.Omega.{arith}
use mir.Val.{bool_byte}
use lib.Dec.{T, eqb}
use lib.ListN.{get_or}
use lib.Pow.{pow_mono}
use mathlib.Core.List.{List}
use Rattle.model.specs.Sizes.{task_limit}
use Rattle.model.specs.Rows.{task, suspension, valid}
use Rattle.model.specs.Waits.{able, wait_number}
use Rattle.model.specs.declared.Wait.{Wait}
use Rattle.model.specs.declared.Wait.TheVariants.{NoWait, Sending, Receiving, AtMailbox}
use Rattle.parts.specs.declared.Task.{Task}
use Rattle.host_tasks.specs.Tasks.{read_task}
use Rattle.host_tasks.specs.declared.HostTask.{HostTask}
use Rattle.model.proofs.Tests.{to_within}
use Rattle.record.proofs.Rows.{row_is}
use Rattle.host_record.specs.declared.HostRecord.{HostRecord}
use Rattle.host_record.specs.Record.{state_of, meaning}
use Rattle.host_record.specs.Sets.{set_of, waits_in, can_run_in, SetsOf}
use Rattle.host_record.specs.Written.{zero_numbers}
use Rattle.host_record.proofs.Record.{task_read}

-- The tasks from t on, of those before 33.
abbrev pub from_on : (ℕ → Bool) → ℕ → ℕ
from_on has t = set_of has t (33 - t)

bit_small : (b : Bool) → cond b 1 0 ≤ 1
bit_small true = omega arith
bit_small false = omega arith

bit_is : (b : Bool) → bool_byte b ≡ cond b 1 0
bit_is true = refl
bit_is false = refl

module _ (has : ℕ → Bool) where
  pub none_yet : from_on has 33 ≡ 0
  unfolding set_of
  none_yet = refl

  pub one_more : {t : ℕ} → suc t ≤ 33 → cond (has t) 1 0 + 2 * from_on has (suc t) ≡ from_on has t
  unfolding set_of
  one_more {t} h = let e : 33 - t ≡ suc (33 - suc t) = omega arith in rw e refl

  set_small : (first n : ℕ) → set_of has first n < 2 ^ n
  unfolding set_of
  set_small first zero = omega arith
  set_small first (suc n) = let rest = set_small (suc first) n in let bit = bit_small (has first) in rw (pow-suc 2 n) (omega arith)

  -- A bit is left for one number more.
  pub has_room : {t : ℕ} → 1 < t → from_on has t < 2147483648
  has_room {t} h = lt_of_lt_of_le (set_small t (33 - t)) (pow_mono (let small : 33 - t ≤ 31 = omega arith in small))

pub same_set : {f g : ℕ → Bool} (first n : ℕ) → ((t : ℕ) → first ≤ t → t < first + n → f t ≡ g t) → set_of f first n ≡ set_of g first n
unfolding set_of
same_set first zero h = refl
same_set first (suc n) h = ap₂ (λ (b : Bool) (rest : ℕ). cond b 1 0 + 2 * rest) (h first (omega arith) (omega arith)) (same_set (suc first) n (λ t lo hi. h t (omega arith) (omega arith)))

-- ── Of a task ──

abbrev pub waits : Task → Bool
waits x = not (able x.wait)

abbrev pub can_run : Task → Bool
can_run x = x.defined && (able x.wait && not x.suspended)

abbrev pub task_of : List HostTask → ℕ → Task
task_of numbers t = read_task (get_or numbers t zero_numbers)

waits_by_number : (w : Wait) → not (eqb (wait_number w) 0) ≡ not (able w)
waits_by_number NoWait = refl
waits_by_number (Sending q end word) = refl
waits_by_number (Receiving q end) = refl
waits_by_number (AtMailbox b end) = refl

can_run_by_number : (defined suspended : Bool) (w : Wait) → (defined && not (not (eqb (wait_number w) 0))) && not suspended ≡ defined && (able w && not suspended)
can_run_by_number true suspended NoWait = refl
can_run_by_number true suspended (Sending q end word) = refl
can_run_by_number true suspended (Receiving q end) = refl
can_run_by_number true suspended (AtMailbox b end) = refl
can_run_by_number false suspended w = refl

-- What the loop has of the tasks from t on.
pub record SoFar (numbers : List HostTask) (t waiting runnable : ℕ) : Type 0 where
  pub low : 1 ≤ t
  pub high : t ≤ 33
  pub waiting_is : waiting ≡ from_on (λ k. waits (task_of numbers k)) t
  pub runnable_is : runnable ≡ from_on (λ k. can_run (task_of numbers k)) t

pub begins : (numbers : List HostTask) → SoFar numbers 33 0 0
begins numbers = record { low = omega arith; high = omega arith; waiting_is = sym (none_yet _); runnable_is = sym (none_yet _) }

set_grows : (has : ℕ → Bool) {t rest bit : ℕ} {b : Bool} → 1 < t → t ≤ 33 → rest ≡ from_on has t → b ≡ has (t - 1) → bit ≡ bool_byte b → bit + 2 * rest ≡ from_on has (t - 1)
set_grows has {t} {rest} {b = b} some fits rest_is b_is is_bit =
    let next : suc (t - 1) ≡ t = omega arith in
    ap (λ (bit : ℕ). bit + 2 * rest) (is_bit ∙ bit_is b) ∙ (ap₂ (λ (b : Bool) (rest : ℕ). cond b 1 0 + 2 * rest) b_is (rest_is ∙ ap (from_on has) (sym next)) ∙ one_more has (omega arith))

pub one_task_more : {numbers : List HostTask} {t waiting runnable waits_bit runs_bit number : ℕ} (x : Task)
    → SoFar numbers t waiting runnable → 1 < t → x ≡ task_of numbers (t - 1) → number ≡ wait_number x.wait
    → waits_bit ≡ bool_byte (not (eqb number 0)) → runs_bit ≡ bool_byte ((x.defined && not (not (eqb number 0))) && not x.suspended)
    → SoFar numbers (t - 1) (waits_bit + 2 * waiting) (runs_bit + 2 * runnable)
one_task_more x so_far some x_is number_is waiting_is runnable_is =
    let waits_is = ap (λ (n : ℕ). not (eqb n 0)) number_is ∙ (waits_by_number x.wait ∙ ap waits x_is) in
    let runs_is = ap (λ (n : ℕ). (x.defined && not (not (eqb n 0))) && not x.suspended) number_is ∙ (can_run_by_number x.defined x.suspended x.wait ∙ ap can_run x_is) in
    record {
      low = omega arith;
      high = let h = so_far.high in omega arith;
      waiting_is = set_grows _ some so_far.high so_far.waiting_is waits_is waiting_is;
      runnable_is = set_grows _ some so_far.high so_far.runnable_is runs_is runnable_is;
    }

pub bit_at_most_1 : (b : Bool) {bit : ℕ} → bit ≡ bool_byte b → bit ≤ 1
bit_at_most_1 b is_bit = rw (is_bit, bit_is b) (bit_small b)

pub rooms : {numbers : List HostTask} {t waiting runnable : ℕ} → SoFar numbers t waiting runnable → 1 < t → (waiting < 2147483648) × (runnable < 2147483648)
rooms so_far more = (rw so_far.waiting_is (has_room _ more), rw so_far.runnable_is (has_room _ more))

-- ── Of the rows ──

module _ (lent : HostRecord) (t : ℕ) (v : T (valid (task t))) where
  waits_as_row : waits (task_of lent.tasks t) ≡ waits_in (meaning lent) t
  waits_as_row = ap waits (sym (task_read lent t)) ∙ rw (row_is (state_of lent) (task t) v) refl

  runs_as_row : can_run (task_of lent.tasks t) ≡ can_run_in (meaning lent) t
  runs_as_row = ap can_run (sym (task_read lent t)) ∙ rw (row_is (state_of lent) (task t) v, row_is (state_of lent) (suspension t) v) refl

pub all_told : {lent : HostRecord} {t waiting runnable : ℕ} → SoFar lent.tasks t waiting runnable → t ≤ 1 → SetsOf lent (record { waiting = waiting; runnable = runnable })
all_told {lent} {t} so_far end =
    let one : t ≡ 1 = let h = so_far.low in omega arith in
    record {
      waiting = so_far.waiting_is ∙ (ap (from_on _) one ∙ same_set 1 32 (λ k lo hi. waits_as_row lent k (to_within 1 task_limit k lo (omega arith))));
      runnable = so_far.runnable_is ∙ (ap (from_on _) one ∙ same_set 1 32 (λ k lo hi. runs_as_row lent k (to_within 1 task_limit k lo (omega arith))));
    }
