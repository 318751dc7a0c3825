-- What the effects on data queues ask of the record and the queue's number.
use Rattle.std.specs.Prelude.{not, ℕ, ◌≤◌, T}
use Rattle.model.specs.Sizes.{capacity_limit}
use Rattle.model.specs.Rows.{queue, valid, QueueRow}
use Rattle.record.specs.declared.State.{State}
use Rattle.record.specs.Meaning.{abs}
use Rattle.record.specs.Sound.{Sound}

-- The row of a data queue.
abbrev pub queue_in : State → ℕ → QueueRow
queue_in s q = (abs s).rows (queue q)

-- A sound record, and the number of a data queue that is defined in it.
pub record AtQueue (s : State) (q : ℕ) : Type 0 where
  pub sound : Sound s
  pub valid_queue : T (valid (queue q))
  pub defined : T (queue_in s q).defined

-- A sound record, the number of a data queue that isn't defined in it, and a capacity in range.
pub record Creatable (s : State) (q capacity : ℕ) : Type 0 where
  pub sound : Sound s
  pub valid_queue : T (valid (queue q))
  pub undefined : T (not (queue_in s q).defined)
  pub capacity_fits : capacity ≤ capacity_limit
