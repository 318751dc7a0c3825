-- Which rows of tasks a decision may change, and whether it changes anything.
use Rattle.std.specs.Prelude.{◌≡◌, ℕ, Bool, true, false, not, T}
use Rattle.model.specs.Rows.{task, suspension, Model}
use Rattle.decide.specs.Decisions.{after, Ready}
use Rattle.decide.specs.declared.Touched.{Touched}
use Rattle.decide.specs.declared.Touched.TheVariants.{NoTask, OneTask, EveryTask}
use Rattle.decide.specs.declared.Decision.{Decision}
use Rattle.decide.specs.declared.Decision.TheVariants.{Refuse, Say, Tick, DefineTask, EndWait, Suspend, CreateQueue, DeleteQueue, Deliver, Store}
use Rattle.decide.specs.declared.Decision.TheVariants.{Replace, TakeOldest, TakeAndRefill, TakeFromSender, CreateMailbox, DeleteMailbox}
use Rattle.decide.specs.declared.Decision.TheVariants.{DeliverMessage, QueueMessage, TakeMessage, Join}

-- What the state says of a task, its row and its suspension, stays.
pub record SameTask (m n : Model) (t : ℕ) : Type 0 where
  pub row : n.rows (task t) ≡ m.rows (task t)
  pub suspended : n.rows (suspension t) ≡ m.rows (suspension t)

-- The tasks that r speaks of.
abbrev pub Covers : Touched → ℕ → Type 0
Covers NoTask t = ⊥
Covers (OneTask u) t = t ≡ u
Covers EveryTask t = Unit

-- Every other task stays.
abbrev pub Touches : Decision → Touched → Type 0
Touches d r = (m : Model) → Ready m d → (t : ℕ) → (Covers r t → ⊥) → SameTask m (after m d).state t

-- All but a refusal and an answer may change the state; those leave it as it is (`LeavesAlone`).
abbrev pub changed_by : Decision → Bool
changed_by (Refuse code) = false
changed_by (Say code a b c) = false
changed_by Tick = true
changed_by (DefineTask t priority) = true
changed_by (EndWait t) = true
changed_by (Suspend t suspended) = true
changed_by (CreateQueue q attribute capacity) = true
changed_by (DeleteQueue q) = true
changed_by (Deliver q t word) = true
changed_by (Store q word) = true
changed_by (Replace q word) = true
changed_by (TakeOldest q) = true
changed_by (TakeAndRefill q t) = true
changed_by (TakeFromSender q t) = true
changed_by (CreateMailbox b attribute highest) = true
changed_by (DeleteMailbox b) = true
changed_by (DeliverMessage b t g) = true
changed_by (QueueMessage b g priority) = true
changed_by (TakeMessage b) = true
changed_by (Join me ranked wait) = true

abbrev pub LeavesAlone : Type 0
LeavesAlone = (d : Decision) → T (not (changed_by d)) → (m : Model) → (after m d).state ≡ m
