-- What the tests of a task's parts say: by the cases of a wait, and by the wrapping difference of two ticks.
use Rattle.std.proofs.Common.{◌≡◌, ℕ, ◌+◌, ◌%◌, ◌^◌, ◌<◌, ◌≤◌, Bool, true, false, T, sym, ap, ◌∙◌, subst, arith}
use Rattle.lists.specs.Tests.{Whether, holds}
use Rattle.lists.proofs.Tests.{is_map, is_and, is_leb, passed_test, passes_test}
use Rattle.model.specs.Sizes.{priority_limit, end_limit, counter_span, within}
use Rattle.model.specs.declared.End.{End}
use Rattle.model.specs.declared.End.TheVariants.{Never, At}
use Rattle.model.specs.declared.Wait.{Wait}
use Rattle.model.specs.declared.Wait.TheVariants.{NoWait}
use Rattle.model.specs.Waits.{wait_end}
use Rattle.model.specs.WellFormed.{ends_a_wait, ticks_left, EndAhead, ObjectInRange}
use Rattle.parts.specs.Chains.{wait_chain}
use Rattle.parts.specs.Tasks.{read_code, NamesChain, WaitSound, TaskSound}
use Rattle.parts.specs.declared.Task.{Task}

-- ── End ticks ──

pub never_ends : (counter : ℕ) {end : End} → end ≡ Never → Whether (EndAhead counter end) true
never_ends counter e = subst (λ (v : End). Whether (EndAhead counter v) true) (sym e) (holds tt)

-- The wrapping difference is the number of ticks left.
pub ends_at : {counter tick left : ℕ} {end : End} {b : Bool} → end ≡ At tick → counter < counter_span → left < counter_span → (left + counter) % 2 ^ 32 ≡ tick
    → Whether ((1 ≤ left) × (left ≤ end_limit)) b → Whether (EndAhead counter end) b
ends_at {counter} {tick} {left} {b = b} e f g h i =
    let left_is : ticks_left counter tick ≡ left = omega arith in
    let within_span : tick < counter_span = omega arith in
    subst (λ (v : End). Whether (EndAhead counter v) b) (sym e)
    (is_map
    (λ p. record { in_range = within_span; not_sooner = rw left_is p.0; not_later = rw left_is p.1 })
    (λ a. (rw left_is at a.not_sooner, rw left_is at a.not_later))
    i)

-- ── Waits ──

-- A wait at an object: the object's number is in range, and the chain is the one that has this number behind `before` others.
pub waits_at : {counter standing : ℕ} {w : Wait} {b : Bool} (v : Wait) (before number : ℕ) → w ≡ v → wait_chain v ≡ before + number → ObjectInRange v ≡ T (within 1 16 number)
    → Whether (NamesChain standing before number × EndAhead counter (wait_end v)) b → Whether (WaitSound counter standing w) b
waits_at {counter} {standing} {w} {b} v before number e chain_is range i =
    let number_test = is_and (is_leb 1 number) (is_leb number 16) in
    subst (λ (u : Wait). Whether (WaitSound counter standing u) b) (sym e)
    (is_map
    (λ p. record { stands = chain_is ∙ p.0.chain_is; object_in_range = rw range (passes_test number_test (p.0.low, p.0.high)); end = p.1 })
    (λ s. let h = passed_test number_test (rw range at s.object_in_range) in (record { low = h.0; high = h.1; chain_is = sym chain_is ∙ s.stands }, s.end))
    i)

-- Without a wait the task stands in no chain.
pub waits_not : {counter standing : ℕ} {w : Wait} {b : Bool} → w ≡ NoWait → Whether (standing ≡ 0) b → Whether (WaitSound counter standing w) b
waits_not {counter} {standing} {b = b} e i =
    subst (λ (u : Wait). Whether (WaitSound counter standing u) b) (sym e)
    (is_map (λ z. record { stands = sym z; object_in_range = tt; end = tt }) (λ s. sym s.stands) i)

-- ── Tasks ──

module _ {counter priority standing : ℕ} {b : Bool} (x : Task) where
  pub defined_task : x.defined ≡ true → Whether ((((1 ≤ priority) × (priority ≤ priority_limit)) × T (ends_a_wait (read_code x.code))) × WaitSound counter standing x.wait) b
      → Whether (TaskSound counter priority standing x) b
  defined_task d i =
      is_map
      (λ p. record {
        stands = p.1.stands;
        suspension = λ t. rw d tt;
        row = record {
          undefined = λ t. absurd (rw d at t);
          priority_in_range = λ t. rw d p.0.0;
          object_in_range = p.1.object_in_range;
          code = rw d p.0.1;
        };
        end = p.1.end;
      })
      (λ s. (
        (rw d at (s.row.priority_in_range (rw d tt)), rw d at s.row.code),
        record { stands = s.stands; object_in_range = s.row.object_in_range; end = s.end },
      ))
      i

  pub undefined_task : x.defined ≡ false → Whether (((T x.suspended → ⊥) × (standing ≡ 0)) × (x.wait ≡ NoWait)) b → Whether (TaskSound counter priority standing x) b
  undefined_task d i =
      is_map
      (λ p. record {
        stands = ap wait_chain p.1 ∙ sym p.0.1;
        suspension = λ t. absurd (p.0.0 t);
        row = record {
          undefined = λ t. p.1;
          priority_in_range = λ t. absurd (rw d at t);
          object_in_range = rw p.1 tt;
          code = rw d tt;
        };
        end = rw p.1 tt;
      })
      (λ s. let w = s.row.undefined (rw d tt) in (((λ t. rw d at (s.suspension t)), sym s.stands ∙ ap wait_chain w), w))
      i
