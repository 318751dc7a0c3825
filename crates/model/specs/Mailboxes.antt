-- Document 01, "Mailboxes": calls 12 to 18, where no row of the error table applies.
use Rattle.std.specs.Prelude.{true, not, cond, ℕ}
use mathlib.Core.List.{List, [], ◌∷◌, tail, head_d}
use Rattle.lists.specs.Lists.{empty, insert_at}
use Rattle.rows.specs.Program.{return, put, get_each, provided◌then◌else◌, ◌>>=◌, ◌>>◌}
use Rattle.model.specs.Rows.{task, mailbox, message, TaskRow, MailboxRow, Environment, Effect, waiters_by_priority, messages_by_priority, no_mailbox}
use Rattle.model.specs.Rows.{free, with_waiters, with_messages}
use Rattle.model.specs.Codes.{E_OK, E_DLT, finished, waits, done, gives, refused_at_step_7}
use Rattle.model.specs.Calls.{Call, View, message_of, highest_of, message_priority_of}
use Rattle.model.specs.Waits.{End, Never, AtMailbox, starting, end_of}
use Rattle.model.specs.WaitQueues.{priorities, place, release, end_waits}

-- The priorities kept with these messages, in order.
abbrev pub message_priorities : List ℕ → (List ℕ → Effect) → Effect
message_priorities gs rest = get_each message (λ g x. x.priority) gs rest

unfoldable pub free_messages : List ℕ → Effect → Effect
free_messages [] rest = rest
free_messages (g ∷ gs) rest = do
  put (message g) free
  free_messages gs
  rest

-- A new mailbox.
abbrev pub create : ℕ → ℕ → ℕ → Effect
create b attribute highest = do
  put (mailbox b) (record { defined = true; attribute = attribute; highest = highest; waiters = []; messages = [] })
  done

-- b is the mailbox that the call names and x its row; me and row are the caller and its row.
module _ (b : ℕ) (x : MailboxRow) where
  -- To the head waiter; the message is never queued, so it stays free.
  unfoldable pub deliver_message : ℕ → Effect
  deliver_message g = do
    put (mailbox b) (with_waiters (tail x.waiters) x)
    release (head_d x.waiters 0) E_OK g
    done

  -- Behind smaller and equal priorities with attribute 2 or 3, else last; a is its place. Only with those attributes is its priority kept.
  unfoldable pub queue_message : ℕ → ℕ → Effect
  queue_message g priority = do
    keys ← message_priorities x.messages
    let n = place (messages_by_priority x.attribute) priority keys
    put (mailbox b) (with_messages (insert_at n g x.messages) x)
    put (message g) (record { queued_in = b; priority = cond (messages_by_priority x.attribute) priority 0 })
    gives n

  -- The head message leaves the queue and can be sent again.
  unfoldable pub take_message : Effect
  take_message = do
    put (mailbox b) (with_messages (tail x.messages) x)
    put (message (head_d x.messages 0)) free
    gives (head_d x.messages 0)

  -- The caller joins the waiters, by arrival or (attribute 1 or 3) by task priority.
  unfoldable pub wait_for_message : ℕ → TaskRow → End → Effect
  wait_for_message me row end = do
    keys ← priorities x.waiters
    let n = place (waiters_by_priority x.attribute) row.priority keys
    put (mailbox b) (with_waiters (insert_at n me x.waiters) x)
    put (task me) (starting (AtMailbox b end) row)
    return (waits n)

  unfoldable pub send_message : ℕ → ℕ → Effect
  send_message g priority = provided not (empty x.waiters) then deliver_message g else queue_message g priority

  unfoldable pub receive_message : Effect → Effect
  receive_message otherwise = provided not (empty x.messages) then take_message else otherwise

  -- The waits end first, then the messages are freed; then the mailbox is undefined.
  abbrev pub delete : Effect
  delete = do
    end_waits x.waiters E_DLT
    free_messages x.messages
    put (mailbox b) no_mailbox
    done

module _ (e : Environment) (v : View) (c : Call) where
  abbrev receive_message_until : End → Effect
  receive_message_until end = receive_message c.object v.the_mailbox (wait_for_message c.object v.the_mailbox c.caller v.caller.row end)

  -- 12: the highest message priority is kept with attribute 2 or 3 alone.
  abbrev pub cre_mbx : Effect
  cre_mbx = create c.object c.attribute (cond (messages_by_priority c.attribute) (highest_of c) 0)

  -- 13
  abbrev pub del_mbx : Effect
  del_mbx = delete c.object v.the_mailbox

  -- 14
  abbrev pub snd_mbx : Effect
  snd_mbx = send_message c.object v.the_mailbox (message_of c) (message_priority_of c)

  -- 15
  abbrev pub rcv_mbx : Effect
  rcv_mbx = receive_message_until Never

  -- 16
  abbrev pub prcv_mbx : Effect
  prcv_mbx = receive_message c.object v.the_mailbox refused_at_step_7

  -- 17
  abbrev pub trcv_mbx : Effect
  trcv_mbx = receive_message_until (end_of e.counter c.tmout)

  -- 18: none reads as 0.
  abbrev pub ref_mbx : Effect
  ref_mbx = return (finished E_OK (head_d v.the_mailbox.waiters 0) (head_d v.the_mailbox.messages 0) 0)
