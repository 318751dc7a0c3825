-- A part that is sound has numbers that say something: one that says nothing reads as what isn't sound.
use mathlib.Core.Path.{◌≡◌, refl, sym, subst}
use mathlib.Core.Bool.{Bool, true, false, cond, ◌||◌}
use mathlib.Core.Logic.{◌≢◌}
use Prim.Native.Nat.{ℕ, ◌<◌, ◌≤◌}
use native.Mathlib.Omega.{arith}
use native.Mathlib.Decide.{dec_lt}
use lib.Dec.{T, ltb}
use borrow.Author.Tests.{lt-ltb, ne_eqb}
use Rattle.model.specs.WellFormed.{ObjectInRange, ends_a_wait, TaskWellFormed}
use Rattle.model.specs.declared.Code.TheVariants.{Ok}
use Rattle.parts.specs.Tasks.{task_row, read_code}
use Rattle.parts.proofs.Codes.{stored_number}
use Rattle.host_tasks.specs.declared.HostTask.{HostTask}
use Rattle.host_tasks.specs.Tasks.{nowhere, wait_of, read_task, TaskNumbers}

-- What holds unless a number is beyond its limit.
not_beyond : {limit n : ℕ} → (limit < n → ⊥) → n ≤ limit
not_beyond {limit} {n} never = elim (dec_lt limit n) [ yes above ↦ absurd (never above) | no within ↦ omega arith ]

-- ── A task ──

beyond_suspended : (x : HostTask) → 3 < x.flags → (read_task x).suspended ≡ true
unfolding read_task
beyond_suspended x h = lt-ltb 1 x.flags (omega arith)

beyond_undefined : (x : HostTask) → 3 < x.flags → (read_task x).defined ≡ false
unfolding read_task
beyond_undefined x h = simp (ne_eqb x.flags 1 (λ e. absurd (omega (arith, h))), ne_eqb x.flags 3 (λ e. absurd (omega (arith, h))))

beyond_nowhere : (x : HostTask) → x.wait ≢ 0 → ltb 3 x.wait || ltb 1 x.timed ≡ true → wait_of x ≡ nowhere
unfolding wait_of
beyond_nowhere x some e = simp (ne_eqb x.wait 0 some, e)

or_second : (a : Bool) → a || true ≡ true
or_second true = refl
or_second false = refl

-- The task's code is its number's, as the row of a task that is defined has it.
kept_code : (x : HostTask) (defined : Bool) → T defined → T (ends_a_wait (cond defined (read_code (read_task x).code) Ok)) → T (ends_a_wait (read_code x.code))
unfolding read_task
kept_code x true d t = t
kept_code x false d t = absurd d

pub task_numbers : (x : HostTask) (priority : ℕ) → (T (read_task x).suspended → T (read_task x).defined) → TaskWellFormed (task_row (read_task x) priority) → TaskNumbers x
unfolding read_task
task_numbers x priority suspension w = record {
  flags = not_beyond (λ h. subst T (beyond_undefined x h) (suspension (subst T (sym (beyond_suspended x h)) tt)));
  wait = not_beyond (λ h. somewhere (λ e. absurd (omega (arith, h))) (rw (lt-ltb 3 x.wait h) refl));
  timed = λ some. not_beyond (λ h. somewhere some (rw (lt-ltb 1 x.timed h) (or_second (ltb 3 x.wait))));
  code = λ d. stored_number x.code (kept_code x (read_task x).defined d w.code);
}
  where
    somewhere : x.wait ≢ 0 → ltb 3 x.wait || ltb 1 x.timed ≡ true → ⊥
    somewhere some e = subst ObjectInRange (beyond_nowhere x some e) w.object_in_range
