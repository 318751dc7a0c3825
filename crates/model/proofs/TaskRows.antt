-- Of a program that ends waits, what is left of the tasks' rows: by running it; the rows of objects don't count here.
use mathlib.Core.Path.{◌≡◌, refl, ◌∙◌, ap}
use mathlib.Core.Bool.{cond}
use mathlib.Core.List.{List, [], ◌∷◌}
use mathlib.Core.Option.{Option, none, some}
use Prim.Native.Nat.{ℕ}
use borrow.Author.Tests.{eq-eqb, ne_eqb}
use Rattle.lists.specs.Lists.{one_of}
use Rattle.rows.specs.Program as Program
use Rattle.rows.specs.Program.{update}
use Rattle.rows.proofs.Update.{update_agree}
use Rattle.model.specs.Rows.{task, same_key, Row, TaskRow, Effect}
use Rattle.model.specs.Codes.{Code}
use Rattle.model.specs.Waits.{ended, WaitQueue, senders_of, receivers_of, waiters_of, wait_queue}
use Rattle.model.specs.WaitQueues.{leave_queue, end_wait, end_waits}
use Rattle.model.specs.declared.Answer.{Answer}
use Rattle.model.proofs.Choices.{cond_both}
use Rattle.model.proofs.Standing.{task_cases}
use Rattle.model.proofs.After.{After, after_get, after_put}

-- Every task's row is as in the other rows.
abbrev pub SameTasks : Program.Rows Row → Program.Rows Row → Type 0
SameTasks m n = (j : ℕ) → n (task j) ≡ m (task j)

-- The row of a task after this code was stored with the tasks of a list, whose waits are over.
abbrev pub ended_in : List ℕ → Code → ℕ → TaskRow → TaskRow
ended_in l code j x = cond (one_of j l) (ended code 0 x) x

module _ {Q : Program.Rows Row → Answer → Type 0} where
  after_leave_queue_tasks : (t : ℕ) (x : Option WaitQueue) (p : Effect) (m : Program.Rows Row) → ((n : Program.Rows Row) → SameTasks m n → After Q p n) → After Q (leave_queue t x p) m
  unfolding leave_queue same_key update
  after_leave_queue_tasks t none p m h = h m (λ j. refl)
  after_leave_queue_tasks t (some (senders_of q)) p m h = after_get (after_put (h _ (λ j. refl)))
  after_leave_queue_tasks t (some (receivers_of q)) p m h = after_get (after_put (h _ (λ j. refl)))
  after_leave_queue_tasks t (some (waiters_of b)) p m h = after_get (after_put (h _ (λ j. refl)))

  pub after_end_wait_tasks : (t : ℕ) (code : Code) (p : Effect) (m : Program.Rows Row)
      → ((n : Program.Rows Row) → SameTasks (update same_key (task t) (ended code 0 (m (task t))) m) n → After Q p n) → After Q (end_wait t code p) m
  unfolding end_wait
  after_end_wait_tasks t code p m h =
      after_get (after_leave_queue_tasks t (wait_queue (m (task t)).wait) _ m (λ n same. after_put (h _ (λ j. update_agree same_key (task t) (ended code 0 (m (task t))) n m (task j) (same j)))))

  pub after_end_waits_tasks : (l : List ℕ) (code : Code) (p : Effect) (m : Program.Rows Row)
      → ((n : Program.Rows Row) → ((j : ℕ) → n (task j) ≡ ended_in l code j (m (task j))) → After Q p n) → After Q (end_waits l code p) m
  unfolding end_waits one_of
  after_end_waits_tasks [] code p m h = h m (λ j. refl)
  after_end_waits_tasks (t ∷ ts) code p m h = after_end_wait_tasks t code _ m (λ n same. after_end_waits_tasks ts code p n (λ o left. h o (λ j. left j ∙ (ap (ended_in ts code j) (same j) ∙ both j))))
    where
      both : (j : ℕ) → ended_in ts code j (update same_key (task t) (ended code 0 (m (task t))) m (task j)) ≡ ended_in (t ∷ ts) code j (m (task j))
      both j = task_cases t m (λ i y. ended_in ts code i y ≡ ended_in (t ∷ ts) code i (m (task i))) _
          (rw (eq-eqb t t refl) (cond_both (one_of t ts) _ _ refl (λ n. refl))) j (λ n. rw (ne_eqb j t n))
