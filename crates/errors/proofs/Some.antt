-- Whatever the code is handed, some view shows it: one is made of it, with a list or a number wherever something has to stand.
use mathlib.Core.Path.{◌≡◌, refl, sym}
use mathlib.Core.Bool.{Bool, true, false, cond}
use mathlib.Core.List.{List, [], ◌∷◌, head_d}
use Prim.Native.Nat.{ℕ, zero, suc}
use lib.Dec.{eqb, eqb-suc-zero}
use lib.ListN.{replicate, length-replicate}
use Rattle.lists.specs.Lists.{empty}
use Rattle.model.specs.Rows.{TaskRow, QueueRow, MailboxRow}
use Rattle.errors.specs.declared.TaskSeen.{TaskSeen}
use Rattle.errors.specs.declared.QueueSeen.{QueueSeen}
use Rattle.errors.specs.declared.MailboxSeen.{MailboxSeen}
use Rattle.errors.specs.Seen.{ShowsTask, ShowsQueue, ShowsMailbox}
use Rattle.errors.specs.Some.{EverySeenShows}

-- ── A task ──

abbrev task_from : TaskSeen → TaskRow
task_from y = record { defined = y.defined; priority = 1; wait = y.wait; code = y.code; word = y.word }

shows_task : (y : TaskSeen) → ShowsTask (task_from y) y
shows_task y = record { defined = refl; wait = refl; code = refl; word = refl }

-- ── A data queue and a mailbox ──

-- A list with this head, none where it is 0.
abbrev headed : ℕ → List ℕ
headed n = cond (eqb n 0) [] (n ∷ [])

head_is : (n : ℕ) → n ≡ head_d (headed n) 0
unfolding head_d
head_is zero = refl
head_is (suc n) = rw (eqb-suc-zero n) refl

none_if_zero : (n : ℕ) → eqb n 0 ≡ empty (headed n)
unfolding empty
none_if_zero zero = refl
none_if_zero (suc n) = rw (eqb-suc-zero n) refl

abbrev queue_from : QueueSeen → QueueRow
queue_from y = record {
  defined = y.defined;
  attribute = y.attribute;
  capacity = y.capacity;
  words = replicate y.count 0;
  senders = headed y.sender;
  receivers = headed y.receiver;
}

shows_queue : (y : QueueSeen) → ShowsQueue (queue_from y) y
shows_queue y = record {
  defined = refl;
  attribute = refl;
  capacity = refl;
  count = sym (length-replicate y.count 0);
  sender = head_is y.sender;
  no_sender = none_if_zero y.sender;
  receiver = head_is y.receiver;
  no_receiver = none_if_zero y.receiver;
}

abbrev mailbox_from : MailboxSeen → MailboxRow
mailbox_from y = record { defined = y.defined; attribute = y.attribute; highest = y.highest; waiters = headed y.waiter; messages = headed y.message }

shows_mailbox : (y : MailboxSeen) → ShowsMailbox (mailbox_from y) y
shows_mailbox y = record {
  defined = refl;
  attribute = refl;
  highest = refl;
  waiter = head_is y.waiter;
  no_waiter = none_if_zero y.waiter;
  message = head_is y.message;
  no_message = none_if_zero y.message;
}

-- ── A message ──

abbrev mailbox_if : Bool → ℕ
mailbox_if free = cond free 0 1

free_if : (free : Bool) → free ≡ eqb (mailbox_if free) 0
free_if true = refl
free_if false = refl

pub every_seen_shows : EverySeenShows
every_seen_shows c y = record {
  view = record {
    caller = record { row = task_from y.caller; suspended = y.caller.suspended };
    the_task = task_from y.task;
    suspended = y.task.suspended;
    the_queue = queue_from y.queue;
    the_mailbox = mailbox_from y.mailbox;
    the_message = record { queued_in = mailbox_if y.message_free; priority = 0 };
  };
  shows = record {
    caller = shows_task y.caller;
    caller_suspended = refl;
    task = shows_task y.task;
    suspended = λ t. refl;
    queue = shows_queue y.queue;
    mailbox = shows_mailbox y.mailbox;
    free = free_if y.message_free;
  };
}
