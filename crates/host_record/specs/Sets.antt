-- Which tasks wait, and which can run: what look tells of one task (document 01, call 22), of all tasks at once. A scheduler asks before and after a call whom
-- the call woke.
use Rattle.std.specs.Prelude.{◌≡◌, Bool, cond, not, ◌&&◌, ℕ, zero, suc, ◌+◌, ◌*◌}
use Rattle.model.specs.Sizes.{task_limit}
use Rattle.model.specs.Rows.{task, suspension, Model}
use Rattle.model.specs.Waits.{able}
use Rattle.host_record.specs.declared.HostRecord.{HostRecord}
use Rattle.host_record.specs.declared.TaskSets.{TaskSets}
use Rattle.host_record.specs.Record.{meaning}

-- Of the n numbers from first on those that have a property, as one number: its lowest bit stands for the first of them, the others, one place up, for the rest.
unfoldable pub set_of : (ℕ → Bool) → ℕ → ℕ → ℕ
set_of has first zero = 0
set_of has first (suc n) = cond (has first) 1 0 + 2 * set_of has (suc first) n

abbrev pub waits_in : Model → ℕ → Bool
waits_in m t = not (able (m.rows (task t)).wait)

-- Defined, not waiting, not suspended: such a task can call.
abbrev pub can_run_in : Model → ℕ → Bool
can_run_in m t = (m.rows (task t)).defined && (able (m.rows (task t)).wait && not (m.rows (suspension t)))

-- Bit n - 1 stands for task n. The record is whatever it is.
pub record SetsOf (lent : HostRecord) (r : TaskSets) : Type 0 where
  pub waiting : r.waiting ≡ set_of (waits_in (meaning lent)) 1 task_limit
  pub runnable : r.runnable ≡ set_of (can_run_in (meaning lent)) 1 task_limit
