-- A task's numbers. Each reads as something; one that says nothing reads as what no sound record has, so the test of the record finds it.
use Rattle.std.specs.Prelude.{Bool, true, false, cond, ◌&&◌, ◌||◌, List, [], ◌∷◌, ◌≢◌, ℕ, ◌≤◌, T, eqb, ltb}
use Rattle.lists.specs.Lists.{one_of}
use Rattle.model.specs.Waits.{wait_number, wait_object, held_word, wait_end}
use Rattle.model.specs.declared.End.{End}
use Rattle.model.specs.declared.End.TheVariants.{Never, At}
use Rattle.model.specs.declared.Wait.{Wait}
use Rattle.model.specs.declared.Wait.TheVariants.{NoWait, Sending, Receiving, AtMailbox}
use Rattle.parts.specs.declared.Task.{Task}
use Rattle.host_tasks.specs.declared.HostTask.{HostTask}

-- ── Read ──

abbrev pub read_end : ℕ → ℕ → End
read_end timed tick = cond (eqb timed 0) Never (At tick)

-- A wait at a data queue that there isn't: nobody waits so in a sound record.
abbrev pub nowhere : Wait
nowhere = Sending 255 Never 0

-- The wait's number is 1, 2 or 3.
abbrev pub wait_with : ℕ → ℕ → End → ℕ → Wait
wait_with wait object end word = cond (eqb wait 1) (Sending object end word) (cond (eqb wait 2) (Receiving object end) (AtMailbox object end))

unfoldable pub wait_of : HostTask → Wait
wait_of x =
    cond (eqb x.wait 0) NoWait
    (cond (ltb 3 x.wait || ltb 1 x.timed) nowhere
    (wait_with x.wait x.object (read_end x.timed x.end) x.sending))

-- The flags are a sum: 1 defined, 2 suspended. A number above 3 reads as suspended and undefined, which no task is in a sound record.
abbrev pub defined_by : ℕ → Bool
defined_by flags = eqb flags 1 || eqb flags 3

abbrev pub suspended_by : ℕ → Bool
suspended_by flags = ltb 1 flags

unfoldable pub read_task : HostTask → Task
read_task x = record { wait = wait_of x; word = x.word; code = x.code; defined = defined_by x.flags; suspended = suspended_by x.flags }

-- Every number says something, as is shown of a sound record (crate host_record, Numbers.antt). A wait's numbers are used only where there is
-- one, the code only of a task that is defined.
pub record TaskNumbers (x : HostTask) : Type 0 where
  pub flags : x.flags ≤ 3
  pub wait : x.wait ≤ 3
  pub timed : x.wait ≢ 0 → x.timed ≤ 1
  pub code : T (read_task x).defined → T (one_of x.code (0 ∷ 49 ∷ 50 ∷ 51 ∷ []))

-- ── Written ──

abbrev pub timed_of : End → ℕ
timed_of Never = 0
timed_of (At tick) = 1

abbrev pub tick_of : End → ℕ
tick_of Never = 0
tick_of (At tick) = tick

abbrev pub flags_of : Bool → Bool → ℕ
flags_of true true = 3
flags_of true false = 1
flags_of false true = 2
flags_of false false = 0

unfoldable pub write_task : Task → HostTask
write_task t = record {
  word = t.word;
  end = tick_of (wait_end t.wait);
  sending = held_word t.wait;
  wait = wait_number t.wait;
  object = wait_object t.wait;
  timed = timed_of (wait_end t.wait);
  code = t.code;
  flags = flags_of t.defined t.suspended;
}

-- ── Written over others, after a table of calls ──

abbrev pub same_numbers : HostTask → HostTask → Bool
same_numbers x y =
    eqb x.word y.word && eqb x.end y.end && eqb x.sending y.sending && eqb x.wait y.wait
    && eqb x.object y.object && eqb x.timed y.timed && eqb x.code y.code && eqb x.flags y.flags

-- Numbers that read as the task already stay as they are, also where they say nothing.
unfoldable pub rewritten : HostTask → Task → HostTask
rewritten x t = cond (same_numbers (write_task t) (write_task (read_task x))) x (write_task t)

unfoldable pub rewrite_all : List HostTask → List Task → List HostTask
rewrite_all [] ts = []
rewrite_all (x ∷ xs) [] = x ∷ xs
rewrite_all (x ∷ xs) (t ∷ ts) = rewritten x t ∷ rewrite_all xs ts
