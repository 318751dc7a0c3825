-- Document 01, "Task states and ticks": what a task's record says of its wait.
use Rattle.std.specs.Prelude.{Bool, false, ℕ, ◌+◌, ◌%◌, eqb, ℤ, pos, negsuc}
use Rattle.std.proofs.Math.Option.{Option, none, some, map, get_or}
use Rattle.lists.specs.Options.{absent}
use Rattle.model.specs.Sizes.{counter_span}
use Rattle.model.specs.Rows.{Key, queue, mailbox, TaskRow}
use Rattle.model.specs.Codes.{Code, E_OK}
pub use Rattle.model.specs.declared.End.{End}
pub use Rattle.model.specs.declared.End.TheVariants.{Never, At}
pub use Rattle.model.specs.declared.Wait.{Wait}
pub use Rattle.model.specs.declared.Wait.TheVariants.{NoWait, Sending, Receiving, AtMailbox}

-- ── What a wait names ──

-- A wait queue: the senders or the receivers of a data queue, or the waiters of a mailbox.
pub data WaitQueue : Type 0 where
  senders_of receivers_of waiters_of : ℕ → WaitQueue
  deriving Discrete as WaitQueue_discrete

-- The object that it belongs to, and that object's number.
abbrev pub object_of : WaitQueue → Key
object_of (senders_of q) = queue q
object_of (receivers_of q) = queue q
object_of (waiters_of b) = mailbox b

abbrev pub object_number : WaitQueue → ℕ
object_number (senders_of q) = q
object_number (receivers_of q) = q
object_number (waiters_of b) = b

-- The wait queue of the object and kind that a wait names. All else that is said of what a wait names is read off this.
abbrev pub wait_queue : Wait → Option WaitQueue
wait_queue NoWait = none
wait_queue (Sending q end word) = some (senders_of q)
wait_queue (Receiving q end) = some (receivers_of q)
wait_queue (AtMailbox b end) = some (waiters_of b)

-- The object that it names.
abbrev pub object_named : Wait → Option Key
object_named w = map object_of (wait_queue w)

-- "Able" is document 01's word: READY and RUNNING aren't told apart. Here: in no wait. Suspension is a row of its own.
abbrev pub able : Wait → Bool
able w = absent (wait_queue w)

-- The number of the object that the task waits at, as look gives it; 0 for none.
abbrev pub wait_object : Wait → ℕ
wait_object w = get_or (map object_number (wait_queue w)) 0

-- ── What else belongs to a wait ──

-- The wait's number, as look gives it.
abbrev pub wait_number : Wait → ℕ
wait_number NoWait = 0
wait_number (Sending q end word) = 1
wait_number (Receiving q end) = 2
wait_number (AtMailbox b end) = 3

-- The word that a sender holds.
abbrev pub held_word : Wait → ℕ
held_word NoWait = 0
held_word (Sending q end word) = word
held_word (Receiving q end) = 0
held_word (AtMailbox b end) = 0

abbrev pub wait_end : Wait → End
wait_end NoWait = Never
wait_end (Sending q end word) = end
wait_end (Receiving q end) = end
wait_end (AtMailbox b end) = end

-- ── A wait starts and ends ──

-- A wait starts with the stored pair cleared.
abbrev pub starting : Wait → TaskRow → TaskRow
starting wait x = record { defined = x.defined; priority = x.priority; wait = wait; code = E_OK; word = 0 }

-- A wait that is over leaves its code and word as the stored pair.
abbrev pub ended : Code → ℕ → TaskRow → TaskRow
ended code word x = record { defined = x.defined; priority = x.priority; wait = NoWait; code = code; word = word }

-- The end of a wait that starts at this counter: in tick tmout + 1 from there, modulo the counter's span (document 02, item 1). The first of these ticks may
-- come at once, so that only then all of tmout has gone by. A negative tmout, which is -1 after step 4, sets none.
unfoldable pub end_of : ℕ → ℤ → End
end_of counter (pos n) = At ((counter + n + 1) % counter_span)
end_of counter (negsuc n) = Never

-- Whether a wait with this end is over when the counter has this value.
abbrev pub due : ℕ → End → Bool
due counter Never = false
due counter (At tick) = eqb tick counter
