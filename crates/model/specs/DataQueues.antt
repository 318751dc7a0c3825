-- Document 01, "Sending and receiving": calls 2 to 11, where no row of the error table applies.
use Rattle.std.specs.Prelude.{true, not, ℕ, length}
use mathlib.Core.List.{[], ◌∷◌, ◌++◌, tail, head_d}
use Rattle.lists.specs.Lists.{empty, insert_at}
use Rattle.rows.specs.Program.{return, get, put, provided◌then◌else◌, ◌>>=◌, ◌>>◌}
use Rattle.model.specs.Rows.{task, queue, TaskRow, QueueRow, Environment, Effect, senders_by_priority, has_room, no_queue, with_words, with_senders}
use Rattle.model.specs.Rows.{with_receivers}
use Rattle.model.specs.Codes.{E_OK, E_DLT, finished, waits, done, gives, refused_at_step_7}
use Rattle.model.specs.Calls.{Call, View, word_of, capacity_of}
use Rattle.model.specs.Waits.{End, Never, Sending, Receiving, held_word, starting, ended, end_of}
use Rattle.model.specs.WaitQueues.{priorities, place, release, end_waits}

-- A new queue.
abbrev pub create : ℕ → ℕ → ℕ → Effect
create q attribute capacity = do
  put (queue q) (record { defined = true; attribute = attribute; capacity = capacity; words = []; senders = []; receivers = [] })
  done

-- q is the queue that the call names and x its row; me and row are the caller and its row.
module _ (q : ℕ) (x : QueueRow) where
  -- To the head receiver; nothing is stored.
  unfoldable pub deliver : ℕ → Effect
  deliver word = do
    put (queue q) (with_receivers (tail x.receivers) x)
    release (head_d x.receivers 0) E_OK word
    done

  -- Behind the words already stored.
  unfoldable pub store : ℕ → Effect
  store word = do
    put (queue q) (with_words (x.words ++ word ∷ []) x)
    done

  -- fsnd at a full queue: the oldest word is lost, the new one comes last; no sender is served.
  unfoldable pub replace_oldest : ℕ → Effect
  replace_oldest word = do
    put (queue q) (with_words (tail x.words ++ word ∷ []) x)
    done

  -- The caller joins the senders, by arrival or (attribute 1) by task priority; its row keeps the word.
  unfoldable pub wait_to_send : ℕ → TaskRow → ℕ → End → Effect
  wait_to_send me row word end = do
    keys ← priorities x.senders
    let n = place (senders_by_priority x.attribute) row.priority keys
    put (queue q) (with_senders (insert_at n me x.senders) x)
    put (task me) (starting (Sending q end word) row)
    return (waits n)

  -- "Send", its three cases in order; `otherwise` is the third.
  unfoldable pub send : ℕ → Effect → Effect
  send word otherwise =
      provided not (empty x.receivers) then deliver word
      else provided has_room x then store word
      else otherwise

  -- Words stored, no sender waiting.
  unfoldable pub take_oldest : Effect
  take_oldest = do
    put (queue q) (with_words (tail x.words) x)
    gives (head_d x.words 0)

  -- Words stored, a sender waiting: its word fills the freed room, and its wait ends.
  unfoldable pub take_oldest_and_refill : Effect
  take_oldest_and_refill = do
    let sender = head_d x.senders 0
    y ← get (task sender)
    put (queue q) (with_senders (tail x.senders) (with_words (tail x.words ++ held_word y.wait ∷ []) x))
    put (task sender) (ended E_OK 0 y)
    gives (head_d x.words 0)

  -- No word stored, a sender waiting (so capacity 0): its word is handed over, and its wait ends.
  unfoldable pub take_from_sender : Effect
  take_from_sender = do
    let sender = head_d x.senders 0
    y ← get (task sender)
    put (queue q) (with_senders (tail x.senders) x)
    put (task sender) (ended E_OK 0 y)
    gives (held_word y.wait)

  -- By arrival, whatever the attribute.
  unfoldable pub wait_to_receive : ℕ → TaskRow → End → Effect
  wait_to_receive me row end = do
    put (queue q) (with_receivers (x.receivers ++ me ∷ []) x)
    put (task me) (starting (Receiving q end) row)
    return (waits (length x.receivers))

  -- "Receive", likewise.
  unfoldable pub receive : Effect → Effect
  receive otherwise =
      provided not (empty x.words) then (provided empty x.senders then take_oldest else take_oldest_and_refill)
      else provided not (empty x.senders) then take_from_sender
      else otherwise

  -- All waits end, the senders' first; then the queue is undefined.
  abbrev pub delete : Effect
  delete = do
    end_waits x.senders E_DLT
    end_waits x.receivers E_DLT
    put (queue q) no_queue
    done

module _ (e : Environment) (v : View) (c : Call) where
  -- The calls with and without a tmout differ only in the end of the wait.
  abbrev send_until : End → Effect
  send_until end = send c.object v.the_queue (word_of c) (wait_to_send c.object v.the_queue c.caller v.caller.row (word_of c) end)

  abbrev receive_word_until : End → Effect
  receive_word_until end = receive c.object v.the_queue (wait_to_receive c.object v.the_queue c.caller v.caller.row end)

  -- 2
  abbrev pub cre_dtq : Effect
  cre_dtq = create c.object c.attribute (capacity_of c)

  -- 3
  abbrev pub del_dtq : Effect
  del_dtq = delete c.object v.the_queue

  -- 4
  abbrev pub snd_dtq : Effect
  snd_dtq = send_until Never

  -- 5
  abbrev pub psnd_dtq : Effect
  psnd_dtq = send c.object v.the_queue (word_of c) refused_at_step_7

  -- 6
  abbrev pub tsnd_dtq : Effect
  tsnd_dtq = send_until (end_of e.counter c.tmout)

  -- 7
  abbrev pub fsnd_dtq : Effect
  fsnd_dtq = send c.object v.the_queue (word_of c) (replace_oldest c.object v.the_queue (word_of c))

  -- 8
  abbrev pub rcv_dtq : Effect
  rcv_dtq = receive_word_until Never

  -- 9
  abbrev pub prcv_dtq : Effect
  prcv_dtq = receive c.object v.the_queue refused_at_step_7

  -- 10
  abbrev pub trcv_dtq : Effect
  trcv_dtq = receive_word_until (end_of e.counter c.tmout)

  -- 11: no waiter reads as 0.
  abbrev pub ref_dtq : Effect
  ref_dtq = return (finished E_OK (head_d v.the_queue.senders 0) (head_d v.the_queue.receivers 0) (length v.the_queue.words))
