-- The tick keeps the rows well-formed: task by task, as rel_wai does.
use mathlib.Core.Bool.{not}
use mathlib.Core.List.{List, [], ◌∷◌}
use Prim.Native.Nat.{ℕ, suc, ◌+◌, ◌%◌}
use lib.Dec.{T}
use Rattle.lists.specs.Lists.{ascending}
use Rattle.rows.specs.Program as Program
use Rattle.model.specs.Sizes.{task_limit, counter_span}
use Rattle.model.specs.Rows.{task, Row, Model}
use Rattle.model.specs.Codes.{E_TMOUT}
use Rattle.model.specs.Waits.{Wait, NoWait, Sending, Receiving, AtMailbox, able, wait_end, due}
use Rattle.model.specs.Tasks.{expire, tick}
use Rattle.model.specs.WellFormed.{WellFormedRows}
use Rattle.model.proofs.After.{After, after_return, after_get, after_if, Kept}
use Rattle.model.proofs.KeptTasks.{kept_end_wait}

pub due_waits : (counter : ℕ) (x : Wait) → T (due counter (wait_end x)) → T (not (able x))
due_waits counter NoWait t = t
due_waits counter (Sending q end word) t = tt
due_waits counter (Receiving q end) t = tt
due_waits counter (AtMailbox b end) t = tt

kept_expire : (counter : ℕ) (ts : List ℕ) (count : ℕ) (m : Program.Rows Row) → WellFormedRows m → After Kept (expire counter ts count) m
unfolding expire
kept_expire counter [] count m w = after_return w
kept_expire counter (t ∷ ts) count m w = after_get (after_if
    (λ is_due. kept_end_wait w t E_TMOUT _ tt (due_waits counter (m (task t)).wait is_due) (λ o u no_wait. kept_expire counter ts (suc count) o u))
    (λ no_end. kept_expire counter ts count m w))

pub kept_tick : (m : Model) → WellFormedRows m.rows → WellFormedRows (tick m).state.rows
unfolding tick
kept_tick m w = (kept_expire ((m.environment.counter + 1) % counter_span) (ascending 1 task_limit) 0 m.rows w).holds
