-- What is written back into a host's record.
use Rattle.std.specs.Prelude.{◌≡◌, List, Option, Some, None, ℕ, T, length, get_or}
use Rattle.model.specs.Rows.{task, valid}
use Rattle.decide.specs.Touches.{Covers}
use Rattle.decide.specs.declared.Touched.{Touched}
use Rattle.decide.specs.declared.Touched.TheVariants.{NoTask, OneTask, EveryTask}
use Rattle.parts.specs.declared.Task.{Task}
use Rattle.host_tasks.specs.Tasks.{read_task, rewrite_all}
use Rattle.host_tasks.specs.declared.HostTask.{HostTask}
use Rattle.record.specs.declared.State.{State}
use Rattle.record.specs.Meaning.{zero_task}
use Rattle.host_record.specs.declared.HostRecord.{HostRecord}

-- What is read outside an array.
abbrev pub zero_numbers : HostTask
zero_numbers = record { word = 0; end = 0; sending = 0; wait = 0; object = 0; timed = 0; code = 0; flags = 0 }

-- Whose numbers are written: those of the tasks that were touched, and where none was, those of number 0, which is nobody's.
abbrev pub Writes : Touched → ℕ → Type 0
Writes NoTask t = t ≡ 0
Writes (OneTask u) t = Covers (OneTask u) t
Writes EveryTask t = Covers EveryTask t

-- Their number, where not all are written.
abbrev pub number_written : Touched → Option ℕ
number_written NoTask = Some 0
number_written (OneTask u) = Some u
number_written EveryTask = None

-- The numbers of a task that was touched read as the task; those that aren't written are as they were.
pub record TasksWritten (numbers : List HostTask) (tasks : List Task) (touched : Touched) (r : List HostTask) : Type 0 where
  pub size : length r ≡ 33
  pub written : (t : ℕ) → T (valid (task t)) → Covers touched t → read_task (get_or r t zero_numbers) ≡ get_or tasks t zero_task
  pub kept : (t : ℕ) → (Writes touched t → ⊥) → get_or r t zero_numbers ≡ get_or numbers t zero_numbers

pub record Written (before : HostRecord) (s : State) (touched : Touched) (r : HostRecord) : Type 0 where
  pub counter : r.counter ≡ s.counter
  pub tasks : TasksWritten before.tasks s.tasks touched r.tasks
  pub queues : r.queues ≡ s.queues
  pub waiting : r.waiting ≡ s.waiting
  pub messages : r.messages ≡ s.messages
  pub mailboxes : r.mailboxes ≡ s.mailboxes

-- ── After a table of calls ──

-- The record that holds the state s: numbers of tasks that say so already stay, and so does the spare byte.
unfoldable pub restored : HostRecord → State → HostRecord
restored lent s = record {
  counter = s.counter;
  tasks = rewrite_all lent.tasks s.tasks;
  queues = s.queues;
  waiting = s.waiting;
  messages = s.messages;
  mailboxes = s.mailboxes;
  spare = lent.spare;
}
