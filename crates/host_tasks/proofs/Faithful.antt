-- What is written says what it stands for, and is read again: part by part, by the cases of each.
use mathlib.Core.Path.{◌≡◌, refl}
use mathlib.Core.Bool.{Bool, true, false, cond, ◌||◌}
use lib.Dec.{eqb, ltb}
use Rattle.model.specs.Waits.{wait_number, wait_object, held_word, wait_end}
use Rattle.model.specs.declared.End.TheVariants.{Never, At}
use Rattle.model.specs.declared.Wait.{Wait}
use Rattle.model.specs.declared.Wait.TheVariants.{NoWait, Sending, Receiving, AtMailbox}
use Rattle.parts.specs.declared.Task.{Task}
use Rattle.host_tasks.specs.Tasks.{read_end, nowhere, wait_with, wait_of, read_task, timed_of, tick_of, flags_of, write_task}

wait_again : (t : Task) → wait_of (write_task t) ≡ t.wait
unfolding wait_of write_task
wait_again t = go t.wait
  where
    go : (w : Wait) → cond (eqb (wait_number w) 0) NoWait
        (cond (ltb 3 (wait_number w) || ltb 1 (timed_of (wait_end w))) nowhere (wait_with (wait_number w) (wait_object w) (read_end (timed_of (wait_end w)) (tick_of (wait_end w))) (held_word w))) ≡ w
    go NoWait = refl
    go (Sending q Never word) = refl
    go (Sending q (At tick) word) = refl
    go (Receiving q Never) = refl
    go (Receiving q (At tick)) = refl
    go (AtMailbox b Never) = refl
    go (AtMailbox b (At tick)) = refl

defined_again : (defined suspended : Bool) → eqb (flags_of defined suspended) 1 || eqb (flags_of defined suspended) 3 ≡ defined
defined_again true true = refl
defined_again true false = refl
defined_again false true = refl
defined_again false false = refl

suspended_again : (defined suspended : Bool) → ltb 1 (flags_of defined suspended) ≡ suspended
suspended_again true true = refl
suspended_again true false = refl
suspended_again false true = refl
suspended_again false false = refl

pub task_again : (t : Task) → read_task (write_task t) ≡ t
unfolding read_task write_task
task_again t = rw (wait_again t, defined_again t.defined t.suspended, suspended_again t.defined t.suspended) refl
