-- What the code is handed of the rows that a call has in view (crates/model/specs/Calls.antt, `View`): all that the error table and the decision ask of them.
use Rattle.std.specs.Prelude.{◌≡◌, Bool, true, false, cond, T, eqb, length, ⊤, Result, Ok, Err}
use mathlib.Core.List.{head_d}
use Rattle.lists.specs.Lists.{empty}
use Rattle.model.specs.Rows.{suspension, Model, TaskRow, QueueRow, MailboxRow}
use Rattle.model.specs.Calls.{reads_suspension, task_named, row_if_valid, View, view_of}
use Rattle.model.specs.declared.Code.TheVariants.{Ok as E_OK, Sys, Par, Id, Ctx, Iluse, Obj, Noexs, Qovr, Rlwai, Tmout, Dlt}
use Rattle.model.specs.declared.Call.{Call}
use Rattle.model.specs.declared.Code.{Code}
use Rattle.errors.specs.declared.TaskSeen.{TaskSeen}
use Rattle.errors.specs.declared.QueueSeen.{QueueSeen}
use Rattle.errors.specs.declared.MailboxSeen.{MailboxSeen}
use Rattle.errors.specs.declared.Seen.{Seen}

pub record ShowsTask (x : TaskRow) (y : TaskSeen) : Type 0 where
  pub defined : y.defined ≡ x.defined
  pub wait : y.wait ≡ x.wait
  pub code : y.code ≡ x.code
  pub word : y.word ≡ x.word

-- The heads of the wait queues, and that a head of 0 is none.
pub record ShowsQueue (x : QueueRow) (y : QueueSeen) : Type 0 where
  pub defined : y.defined ≡ x.defined
  pub attribute : y.attribute ≡ x.attribute
  pub capacity : y.capacity ≡ x.capacity
  pub count : y.count ≡ length x.words
  pub sender : y.sender ≡ head_d x.senders 0
  pub no_sender : eqb y.sender 0 ≡ empty x.senders
  pub receiver : y.receiver ≡ head_d x.receivers 0
  pub no_receiver : eqb y.receiver 0 ≡ empty x.receivers

pub record ShowsMailbox (x : MailboxRow) (y : MailboxSeen) : Type 0 where
  pub defined : y.defined ≡ x.defined
  pub attribute : y.attribute ≡ x.attribute
  pub highest : y.highest ≡ x.highest
  pub waiter : y.waiter ≡ head_d x.waiters 0
  pub no_waiter : eqb y.waiter 0 ≡ empty x.waiters
  pub message : y.message ≡ head_d x.messages 0
  pub no_message : eqb y.message 0 ≡ empty x.messages

-- A named task's suspension is shown to the calls to which it matters.
pub record Shows (v : View) (c : Call) (y : Seen) : Type 0 where
  pub caller : ShowsTask v.caller.row y.caller
  pub caller_suspended : y.caller.suspended ≡ v.caller.suspended
  pub task : ShowsTask v.the_task y.task
  pub suspended : T (reads_suspension c) → y.task.suspended ≡ v.suspended
  pub queue : ShowsQueue v.the_queue y.queue
  pub mailbox : ShowsMailbox v.the_mailbox y.mailbox
  pub free : y.message_free ≡ eqb v.the_message.queued_in 0

-- All that is seen for a call in this state: the rows in view, whether the named task is suspended, whichever call names it, and the counter.
pub record SeenFor (m : Model) (c : Call) (y : Seen) : Type 0 where
  pub shows : Shows (view_of m c) c y
  pub suspended : y.task.suspended ≡ row_if_valid m.rows (suspension (task_named c))
  pub counter : y.counter ≡ m.environment.counter

-- E_OK alone: the code of a call that no row of the table refuses (proofs/Laws.antt).
abbrev pub is_ok : Code → Bool
is_ok E_OK = true
is_ok Sys = false
is_ok Par = false
is_ok Id = false
is_ok Ctx = false
is_ok Iluse = false
is_ok Obj = false
is_ok Noexs = false
is_ok Qovr = false
is_ok Rlwai = false
is_ok Tmout = false
is_ok Dlt = false

-- What a code of the table comes to: a refusal with this code, and none where it is E_OK, which no row has.
abbrev pub refusal_of : Code → Result ⊤ Code
refusal_of code = cond (is_ok code) (Ok tt) (Err code)
