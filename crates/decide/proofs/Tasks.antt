-- The calls on tasks: what is seen is the task's own row, so each decision is its case.
use Rattle.std.proofs.Common.{◌≡◌, ℕ, ◌%◌, ◌≤◌, true, false, cond, refl, arith, nltb→le}
use Rattle.lists.specs.Lists.{one_of}
use Rattle.rows.specs.Program.{return}
use Rattle.errors.specs.declared.Seen.{Seen}
use Rattle.model.specs.Sizes.{call_limit}
use Rattle.model.specs.Rows.{Model}
use Rattle.model.specs.Codes.{finished, done}
use Rattle.model.specs.Errors.{unknown}
use Rattle.model.specs.Waits.{wait_number, wait_object}
use Rattle.model.specs.WaitQueues.{end_wait}
use Rattle.model.specs.Tasks.{define, set_suspension}
use Rattle.model.specs.Step.{effect, effects}
use Rattle.model.specs.declared.Call.{Call}
use Rattle.model.specs.declared.Code.{Code}
use Rattle.model.specs.declared.Code.TheVariants.{Ok as E_OK, Rlwai as E_RLWAI}
use Rattle.model.proofs.Accepted.{passes}
use Rattle.model.proofs.Checked.{task_priority, task_waits}
use Rattle.decide.specs.Decisions.{Taken, Decided}
use Rattle.decide.specs.declared.Decision.{Decision}
use Rattle.decide.specs.declared.Decision.TheVariants.{Say, DefineTask, EndWait, Suspend}
use Rattle.decide.proofs.Taken.{at_number, passed, valid_task, the_task_is, decided}

module _ {m : Model} {y : Seen} (c : Call) (a : Taken m c y) where
  -- Step 0 has refused the numbers above.
  pub known : c.number ≤ call_limit
  unfolding unknown
  known = nltb→le call_limit c.number (passes _ c a.accepted).step_0

  pub defined : c.number ≡ 1 → (priority : ℕ) → priority ≡ c.value % 256 → Decided m c (DefineTask c.object priority)
  unfolding one_of effect effects
  defined e priority f = at_number (λ d. Decided m d (DefineTask c.object priority)) 1 a e (λ b.
      let low = (task_priority (passed 1 c b) tt).1 in
      let same : priority ≡ c.value = omega (arith, f, low) in
      decided 1 c b (define c.object c.value) tt refl (rw same refl) (valid_task 1 c b tt))

  pub wait_ended : c.number ≡ 19 → Decided m c (EndWait c.object)
  unfolding one_of effect effects
  wait_ended e = at_number (λ d. Decided m d (EndWait c.object)) 19 a e (λ b.
      decided 19 c b (end_wait c.object E_RLWAI done) tt refl refl (valid_task 19 c b tt, rw (the_task_is 19 c b tt) at (task_waits (passed 19 c b) tt)))

  pub suspended : c.number ≡ 20 → Decided m c (Suspend c.object true)
  unfolding one_of effect effects
  suspended e = at_number (λ d. Decided m d (Suspend c.object true)) 20 a e (λ b.
      decided 20 c b (set_suspension c.object true) tt refl refl (valid_task 20 c b tt))

  pub resumed : c.number ≡ 21 → Decided m c (Suspend c.object false)
  unfolding one_of effect effects
  resumed e = at_number (λ d. Decided m d (Suspend c.object false)) 21 a e (λ b.
      decided 21 c b (set_suspension c.object false) tt refl refl (valid_task 21 c b tt))

  pub looked_at : c.number ≡ 22 → {d : Decision} → d ≡ Say E_OK (wait_number y.task.wait) (wait_object y.task.wait) (cond y.task.suspended 1 0) → Decided m c d
  unfolding one_of effect effects
  looked_at e {d} f = at_number (λ k. Decided m k d) 22 a e (λ b.
      let shown = b.seen.shows in
      rw f (decided 22 c b (return (finished E_OK (wait_number y.task.wait) (wait_object y.task.wait) (cond y.task.suspended 1 0))) tt
      (rw (shown.task.wait, shown.suspended tt) refl) refl tt))

  pub fetched : c.number ≡ 23 → {code : Code} → code ≡ y.task.code → Decided m c (Say code y.task.word 0 0)
  unfolding one_of effect effects
  fetched e {code} f = at_number (λ d. Decided m d (Say code y.task.word 0 0)) 23 a e (λ b.
      let shown = b.seen.shows.task in
      decided 23 c b (return (finished code y.task.word 0 0)) tt (rw (f, shown.code, shown.word) refl) refl tt)
