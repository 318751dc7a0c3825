-- Document 01, "The calls, by number": which call a number is, what each call names, and what of the state it then has in view.
use Rattle.std.specs.Prelude.{Bool, cond, List, [], ◌∷◌, ℕ, eqb}
use Rattle.lists.specs.Lists.{one_of}
use Rattle.rows.specs.Program as Program
use Rattle.rows.specs.Program.{Program, return, get, provided◌then◌else◌, run, ◌>>=◌}
use Rattle.model.specs.Sizes.{within}
use Rattle.model.specs.Rows.{Key, task, suspension, queue, mailbox, message, same_key, valid, Row, TaskRow, QueueRow, MailboxRow, MessageRow}
use Rattle.model.specs.Rows.{Environment, Model, nothing}
pub use Rattle.model.specs.declared.Call.{Call}

-- ── Which call it is ──

-- Number 0 is the tick, which is no call.
abbrev pub is_tick : Call → Bool
is_tick c = eqb c.number 0

-- The call's number is one of these.
abbrev pub calls : Call → List ℕ → Bool
calls c numbers = one_of c.number numbers

-- The column "Names": what the field `object` is the number of.
abbrev pub names_task : Call → Bool
names_task c = calls c (1 ∷ 19 ∷ 20 ∷ 21 ∷ 22 ∷ 23 ∷ [])

abbrev pub names_queue : Call → Bool
names_queue c = within 2 11 c.number

abbrev pub names_mailbox : Call → Bool
names_mailbox c = within 12 18 c.number

abbrev pub names_message : Call → Bool
names_message c = eqb c.number 14

-- The calls that make a task or an object: all three, and each.
abbrev pub creates : Call → Bool
creates c = calls c (1 ∷ 2 ∷ 12 ∷ [])

abbrev pub defines_task : Call → Bool
defines_task c = eqb c.number 1

abbrev pub creates_queue : Call → Bool
creates_queue c = eqb c.number 2

abbrev pub creates_mailbox : Call → Bool
creates_mailbox c = eqb c.number 12

-- The calls that delete an object.
abbrev pub deletes_queue : Call → Bool
deletes_queue c = eqb c.number 3

abbrev pub deletes_mailbox : Call → Bool
deletes_mailbox c = eqb c.number 13

-- Sends to a data queue: snd, psnd and tsnd, which need a receiver or room, and fsnd, the forced send.
abbrev pub sends_for_room : Call → Bool
sends_for_room c = within 4 6 c.number

abbrev pub sends_forced : Call → Bool
sends_forced c = eqb c.number 7

-- Receives from a data queue, and from a mailbox.
abbrev pub receives_word : Call → Bool
receives_word c = within 8 10 c.number

abbrev pub receives_message : Call → Bool
receives_message c = within 15 17 c.number

-- Of snd, psnd, tsnd and the receives: those that may wait, those that poll, and those with a tmout.
abbrev pub may_wait : Call → Bool
may_wait c = calls c (4 ∷ 6 ∷ 8 ∷ 10 ∷ 15 ∷ 17 ∷ [])

abbrev pub polls_by_name : Call → Bool
polls_by_name c = calls c (5 ∷ 9 ∷ 16 ∷ [])

abbrev pub has_tmout : Call → Bool
has_tmout c = calls c (6 ∷ 10 ∷ 17 ∷ [])

-- The calls that only a task can make: the two deletes, and those that may wait.
abbrev pub task_only : Call → Bool
task_only c = calls c (3 ∷ 4 ∷ 6 ∷ 8 ∷ 10 ∷ 13 ∷ 15 ∷ 17 ∷ [])

-- Calls on a task: rel_wai, sus_tsk, rsm_tsk and fetch; and those to which its suspension matters: sus_tsk, rsm_tsk and look.
abbrev pub releases : Call → Bool
releases c = eqb c.number 19

abbrev pub suspends : Call → Bool
suspends c = eqb c.number 20

abbrev pub resumes : Call → Bool
resumes c = eqb c.number 21

abbrev pub fetches : Call → Bool
fetches c = eqb c.number 23

abbrev pub reads_suspension : Call → Bool
reads_suspension c = calls c (20 ∷ 21 ∷ 22 ∷ [])

-- ── What it names ──

-- The column "Names": what else the fields `value` and `attribute` hold.
abbrev pub word_of : Call → ℕ
word_of c = c.value

abbrev pub message_of : Call → ℕ
message_of c = c.value

abbrev pub capacity_of : Call → ℕ
capacity_of c = c.value

abbrev pub task_priority_of : Call → ℕ
task_priority_of c = c.value

abbrev pub highest_of : Call → ℕ
highest_of c = c.value

abbrev pub message_priority_of : Call → ℕ
message_priority_of c = c.attribute

-- The numbers that a call names, 0 where it names none of that kind.
abbrev pub task_named : Call → ℕ
task_named c = cond (names_task c) c.object 0

abbrev pub queue_named : Call → ℕ
queue_named c = cond (names_queue c) c.object 0

abbrev pub mailbox_named : Call → ℕ
mailbox_named c = cond (names_mailbox c) c.object 0

abbrev pub message_named : Call → ℕ
message_named c = cond (names_message c) (message_of c) 0

abbrev pub suspension_named : Call → ℕ
suspension_named c = cond (reads_suspension c) c.object 0

-- All that a call names, its caller first.
abbrev pub names : Call → List Key
names c =
    task c.caller ∷ suspension c.caller ∷ task (task_named c) ∷ suspension (task_named c)
    ∷ queue (queue_named c) ∷ mailbox (mailbox_named c) ∷ message (message_named c) ∷ []

-- ── What of the state a call has in view ──

-- It reads in two stages. Steps 0 to 4 of the error table look at the call and its caller alone; only a call that passes them reads the rows that it names.

pub record CallerView : Type 0 where
  pub row : TaskRow
  pub suspended : Bool

-- What isn't named shows as undefined.
pub record View : Type 0 where
  pub caller : CallerView
  pub the_task : TaskRow
  pub suspended : Bool
  pub the_queue : QueueRow
  pub the_mailbox : MailboxRow
  pub the_message : MessageRow

-- A row whose number isn't valid is never read, and shows as undefined too.
abbrev pub row_if_valid : Program.Rows Row → (k : Key) → Row k
row_if_valid m k = cond (valid k) (m k) (nothing k)

unfoldable pub read_if_valid : {X : Type 0} (k : Key) → (Row k → Program Key Row X) → Program Key Row X
read_if_valid k rest = provided valid k then get k rest else rest (nothing k)

-- The first stage. (The environment is handed in because owners, which document 02's item 7 brings, will stand in it.)
unfoldable pub see_caller : Environment → Call → Program Key Row CallerView
see_caller e c = do
  row ← read_if_valid (task c.caller)
  suspended ← read_if_valid (suspension c.caller)
  return (record { row = row; suspended = suspended })

-- The second. A named task's suspension is read only by the calls to which it matters.
unfoldable pub see_named : Environment → Call → CallerView → Program Key Row View
see_named e c caller = do
  the_task ← read_if_valid (task (task_named c))
  suspended ← read_if_valid (suspension (suspension_named c))
  the_queue ← read_if_valid (queue (queue_named c))
  the_mailbox ← read_if_valid (mailbox (mailbox_named c))
  the_message ← read_if_valid (message (message_named c))
  return (record { caller = caller; the_task = the_task; suspended = suspended; the_queue = the_queue; the_mailbox = the_mailbox; the_message = the_message })

-- Both stages: what the programs above read in this state.
unfoldable pub view_of : Model → Call → View
view_of m c =
    let caller = (run same_key (see_caller m.environment c) m.rows).answer in
    (run same_key (see_named m.environment c caller) m.rows).answer
