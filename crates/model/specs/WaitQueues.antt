-- Document 01, "Error numbers and their order" (place) and "Task states and ticks" (how a wait ends): wait queues, and what several calls share.
use Rattle.std.specs.Prelude.{Bool, false, cond, List, [], ◌∷◌, ℕ, length}
use Rattle.std.proofs.Math.Option.{Option, none, some}
use Rattle.lists.specs.Lists.{without, passed}
use Rattle.rows.specs.Program as Program
use Rattle.rows.specs.Program.{get, put, get_each, update, ◌>>=◌, ◌>>◌}
use Rattle.model.specs.Rows.{task, same_key, Row, Effect, senders_by_priority, waiters_by_priority, with_senders, with_receivers, with_waiters}
use Rattle.model.specs.Codes.{Code}
use Rattle.model.specs.Waits.{Wait, ended, WaitQueue, senders_of, receivers_of, waiters_of, object_of, wait_queue}

-- ── A wait queue, as a part of its object's row ──

-- The tasks that stand in it, head first.
abbrev pub members : (k : WaitQueue) → Row (object_of k) → List ℕ
members (senders_of q) x = x.senders
members (receivers_of q) x = x.receivers
members (waiters_of b) x = x.waiters

-- The row with this list as the wait queue.
abbrev pub with_members : (k : WaitQueue) → List ℕ → Row (object_of k) → Row (object_of k)
with_members (senders_of q) l x = with_senders l x
with_members (receivers_of q) l x = with_receivers l x
with_members (waiters_of b) l x = with_waiters l x

-- Whether it goes by task priority.
abbrev pub goes_by_priority : (k : WaitQueue) → Row (object_of k) → Bool
goes_by_priority (senders_of q) x = senders_by_priority x.attribute
goes_by_priority (receivers_of q) x = false
goes_by_priority (waiters_of b) x = waiters_by_priority x.attribute

-- The same of all rows.
abbrev pub standing_in : Program.Rows Row → WaitQueue → List ℕ
standing_in m k = members k (m (object_of k))

abbrev pub by_priority : Program.Rows Row → WaitQueue → Bool
by_priority m k = goes_by_priority k (m (object_of k))

unfoldable pub set_standing : WaitQueue → List ℕ → Program.Rows Row → Program.Rows Row
set_standing k l m = update same_key (object_of k) (with_members k l (m (object_of k))) m

-- ── Places ──

-- The priorities of these tasks, in order.
abbrev pub priorities : List ℕ → (List ℕ → Effect) → Effect
priorities ts rest = get_each task (λ t x. x.priority) ts rest

-- "Place" is document 01's word: how many stay ahead of a newcomer. By priority, those of equal or smaller number; by arrival, all.
unfoldable pub place : Bool → ℕ → List ℕ → ℕ
place by_priority priority keys = cond by_priority (passed priority keys) (length keys)

-- ── Waits end ──

-- The wait of a task just taken off the head of its wait queue ends.
unfoldable pub release : ℕ → Code → ℕ → Effect → Effect
release t code word rest = do
  x ← get (task t)
  put (task t) (ended code word x)
  rest

-- The task leaves the wait queue that its wait names. A sender's word goes with it: it stands in the wait alone.
unfoldable pub leave_queue : ℕ → Option WaitQueue → Effect → Effect
leave_queue t none rest = rest
leave_queue t (some k) rest = do
  x ← get (object_of k)
  put (object_of k) (with_members k (without t (members k x)) x)
  rest

abbrev pub take_out : ℕ → Wait → Effect → Effect
take_out t wait rest = leave_queue t (wait_queue wait) rest

-- A wait is ended by rel_wai, the tick or a delete, at whatever place; the stored word is 0.
unfoldable pub end_wait : ℕ → Code → Effect → Effect
end_wait t code rest = do
  x ← get (task t)
  take_out t x.wait
  put (task t) (ended code 0 x)
  rest

unfoldable pub end_waits : List ℕ → Code → Effect → Effect
end_waits [] code rest = rest
end_waits (t ∷ ts) code rest = do
  end_wait t code
  end_waits ts code
  rest
