-- Document 01, "A wait ends later with .." and "Task states and ticks": with which code and word each wait ends, and when at the latest.
use Rattle.std.specs.Prelude.{◌≡◌, Bool, true, not, ◌&&◌, ◌||◌, cond, ℕ, suc, ◌+◌, ◌%◌, ◌≤◌, T, eqb, pos, length}
use mathlib.Core.List.{List, [], ◌∷◌, head_d}
use Rattle.std.proofs.Math.Option.{Option, none, some}
use Rattle.lists.specs.Lists.{empty, one_of, ascending}
use Rattle.lists.specs.Options.{absent}
use Rattle.rows.specs.Program as Program
use Rattle.rows.specs.Runs.{end}
use Rattle.model.specs.Sizes.{task_limit, counter_span}
use Rattle.model.specs.Rows.{task, Row, TaskRow, Model}
use Rattle.model.specs.Codes.{Code, E_OK, E_RLWAI, E_TMOUT, E_DLT, finished}
use Rattle.model.specs.Calls.{Call, is_tick, defines_task, sends_for_room, sends_forced, receives_word, names_message, deletes_queue, deletes_mailbox}
use Rattle.model.specs.Calls.{releases, fetches, has_tmout, word_of, message_of, task_priority_of, view_of}
use Rattle.model.specs.Waits.{End, Never, At, Wait, NoWait, Sending, Receiving, AtMailbox, able, starting, ended, wait_end, end_of, due}
use Rattle.model.specs.Errors.{refused}
use Rattle.model.specs.Step.{step}
use Rattle.model.specs.WellFormed.{ticks_left, WellFormed}
use Rattle.model.specs.Answers.{is_wait}

-- ── The waits that ended between two states ──

abbrev pub is_waiting : Program.Rows Row → ℕ → Bool
is_waiting m t = not (able (m (task t)).wait)

-- The task waited before, and doesn't after.
abbrev pub wait_ended : Program.Rows Row → Program.Rows Row → ℕ → Bool
wait_ended before after t = is_waiting before t && not (is_waiting after t)

-- What a wait ends with.
pub record CodeAndWord : Type 0 where
  pub code : Code
  pub word : ℕ

-- What a wait ends with whose time is over.
abbrev pub timed_out : CodeAndWord
timed_out = record { code = E_TMOUT; word = 0 }

-- The pair stored with the task, where its wait has ended.
abbrev pub ended_with : Program.Rows Row → Program.Rows Row → ℕ → Option CodeAndWord
ended_with before after t = cond (wait_ended before after t) (some (record { code = (after (task t)).code; word = (after (task t)).word })) none

-- A task with the code and the word that its wait ended with.
pub record WaitEnd : Type 0 where
  pub task : ℕ
  pub code : Code
  pub word : ℕ

abbrev pub add_end : ℕ → Option CodeAndWord → List WaitEnd → List WaitEnd
add_end t none l = l
add_end t (some e) l = record { task = t; code = e.code; word = e.word } ∷ l

-- Of these tasks, those that are given a code and a word, with these.
unfoldable pub ends_among : (ℕ → Option CodeAndWord) → List ℕ → List WaitEnd
ends_among given [] = []
ends_among given (t ∷ ts) = add_end t (given t) (ends_among given ts)

-- All waits that ended, in ascending task number.
abbrev pub ended_waits : Program.Rows Row → Program.Rows Row → List WaitEnd
ended_waits before after = ends_among (ended_with before after) (ascending 1 task_limit)

-- ── What is due ──

pub record Cause : Type 0 where
  pub pair : CodeAndWord
  pub applies : Bool

infix 66 ◌and◌when◌
abbrev pub ◌and◌when◌ : Code → ℕ → Bool → Cause
code and word when applies = record { pair = record { code = code; word = word }; applies = applies }

-- The task stands at the head of this wait queue.
unfoldable pub is_head : ℕ → List ℕ → Bool
is_head t l = not (empty l) && eqb t (head_d l 0)

-- The causes that end a wait of task t, and what it ends with: in each row first the code and the word, then the calls, then who is meant.
unfoldable pub causes : Model → Call → ℕ → List Cause
causes m c t =
    -- The tick that brings the counter to the wait's end tick.
    (E_TMOUT and 0 when (is_tick c && due ((m.environment.counter + 1) % counter_span) (wait_end (m.rows (task t)).wait)))
    -- A word sent goes to the head receiver.
    ∷ (E_OK and word_of c when ((sends_for_room c || sends_forced c) && is_head t (view_of m c).the_queue.receivers))
    -- A receive takes the head sender's word, to store it or to hand it over.
    ∷ (E_OK and 0 when (receives_word c && is_head t (view_of m c).the_queue.senders))
    -- A message sent goes to the head waiter.
    ∷ (E_OK and message_of c when (names_message c && is_head t (view_of m c).the_mailbox.waiters))
    -- A delete ends every wait at the data queue, or at the mailbox.
    ∷ (E_DLT and 0 when (deletes_queue c && (one_of t (view_of m c).the_queue.senders || one_of t (view_of m c).the_queue.receivers)))
    ∷ (E_DLT and 0 when (deletes_mailbox c && one_of t (view_of m c).the_mailbox.waiters))
    -- rel_wai ends the wait of the task that it names.
    ∷ (E_RLWAI and 0 when (releases c && eqb t c.object))
    ∷ []

-- The pair of the first cause that applies. (Never two do: each row has calls of its own.)
unfoldable pub first_cause : List Cause → Option CodeAndWord
first_cause [] = none
first_cause (x ∷ xs) = cond x.applies (some x.pair) (first_cause xs)

-- The call is accepted, or the tick.
abbrev pub takes_effect : Model → Call → Bool
takes_effect m c = is_tick c || not (refused (view_of m c) c)

-- What the wait of task t ends with in this step, if it ends. A refused call ends none.
unfoldable pub due_to : Model → Call → ℕ → Option CodeAndWord
due_to m c t = cond (takes_effect m c) (first_cause (causes m c t)) none

-- ── Each wait ends with the code and word due to it ──

abbrev pub row_after : Model → Call → ℕ → TaskRow
row_after m c t = (step m c).state.rows (task t)

-- The call is the task's, and is answered "waits".
abbrev pub wait_begins : Model → Call → ℕ → Bool
wait_begins m c t = is_wait (step m c).answer.outcome && eqb t c.caller

-- The wait that begins then: at the object that the call names, a sender's with its word, and with an end tick where the call has a tmout.
abbrev pub begun_end : Model → Call → End
begun_end m c = cond (has_tmout c) (end_of m.environment.counter c.tmout) Never

abbrev pub begun_wait : Model → Call → Wait
begun_wait m c =
    cond (sends_for_room c) (Sending c.object (begun_end m c) (word_of c))
    (cond (receives_word c) (Receiving c.object (begun_end m c)) (AtMailbox c.object (begun_end m c)))

-- The call, accepted, defines the task.
abbrev pub defines : Model → Call → ℕ → Bool
defines m c t = defines_task c && eqb t c.object && not (refused (view_of m c) c)

-- What one call, or the tick, does to the row of task t.
pub record EndsAsDue (m : Model) (c : Call) (t : ℕ) : Type 0 where
  -- A wait to which something is due is over, with that code and word stored.
  pub ends : (e : CodeAndWord) → T (is_waiting m.rows t) → due_to m c t ≡ some e → row_after m c t ≡ ended e.code e.word (m.rows (task t))
  -- Every other wait goes on as it was.
  pub goes_on : T (is_waiting m.rows t) → due_to m c t ≡ none → row_after m c t ≡ m.rows (task t)
  -- To a task that doesn't wait nothing is due.
  pub nothing_due : T (not (is_waiting m.rows t)) → due_to m c t ≡ none
  -- Its wait may begin, with the stored pair cleared.
  pub begins : T (wait_begins m c t) → T (not (is_waiting m.rows t)) × (row_after m c t ≡ starting (begun_wait m c) (m.rows (task t)))
  -- It may be defined, if it wasn't.
  pub defined : T (defines m c t)
      → T (not (m.rows (task t)).defined) × (row_after m c t ≡ record { defined = true; priority = task_priority_of c; wait = NoWait; code = E_OK; word = 0 })
  -- Else its row, with the stored pair, is as it was.
  pub stays : T (not (is_waiting m.rows t)) → T (not (wait_begins m c t)) → T (not (defines m c t)) → row_after m c t ≡ m.rows (task t)

abbrev pub WaitsEndAsDue : Type 0
WaitsEndAsDue = (m : Model) (c : Call) (t : ℕ) → WellFormed m → EndsAsDue m c t

-- The same of the waits that ended, read off the states before and after.
pub record EndedAreDue (m : Model) (c : Call) : Type 0 where
  -- A wait has ended exactly where something was due to it,
  pub where_due : (t : ℕ) → wait_ended m.rows (step m c).state.rows t ≡ not (absent (due_to m c t))
  -- with the code and word that were due;
  pub as_due : (t : ℕ) → ended_with m.rows (step m c).state.rows t ≡ due_to m c t
  -- and so are all of them, in ascending task number.
  pub all_as_due : ended_waits m.rows (step m c).state.rows ≡ ends_among (due_to m c) (ascending 1 task_limit)

abbrev pub EndedWaitsAreDue : Type 0
EndedWaitsAreDue = (m : Model) (c : Call) → WellFormed m → EndedAreDue m c

-- "Several in one tick end in ascending task number; a is how many."
abbrev pub TickCountsEnds : Type 0
TickCountsEnds =
    (m : Model) (c : Call) → WellFormed m → T (is_tick c)
    → (step m c).answer ≡ finished E_OK (length (ended_waits m.rows (step m c).state.rows)) 0 0

-- ── The stored pair, until the next wait begins ──

-- In these calls and ticks, made one after the other from m on, no wait of task t begins.
unfoldable pub NoWaitBegins : ℕ → Model → List Call → Type 0
NoWaitBegins t m [] = Unit
NoWaitBegins t m (c ∷ cs) = T (not (wait_begins m c t)) × NoWaitBegins t (step m c).state cs

-- The call is an accepted fetch of task t.
pub record FetchOf (t : ℕ) (m : Model) (c : Call) : Type 0 where
  pub is_fetch : T (fetches c)
  pub names_it : c.object ≡ t
  pub accepted : T (not (refused (view_of m c) c))

-- "Fetch gives it as code and a": the pair that a task has while it doesn't wait is what fetch answers, whatever is called until its next wait begins.
abbrev pub FetchGivesStoredPair : Type 0
FetchGivesStoredPair =
    (m : Model) (t : ℕ) → WellFormed m → T (m.rows (task t)).defined → T (not (is_waiting m.rows t))
    → (cs : List Call) → NoWaitBegins t m cs → (f : Call) → FetchOf t (end step m cs) f
    → (step (end step m cs) f).answer ≡ finished (m.rows (task t)).code (m.rows (task t)).word 0 0

-- So what was due to a wait in a step is what fetch answers after it, until the task's next wait begins.
abbrev pub FetchGivesWhatWasDue : Type 0
FetchGivesWhatWasDue =
    (m : Model) (c : Call) (t : ℕ) (e : CodeAndWord) → WellFormed m → T (is_waiting m.rows t) → due_to m c t ≡ some e
    → (cs : List Call) → NoWaitBegins t (step m c).state cs → (f : Call) → FetchOf t (end step (step m c).state cs) f
    → (step (end step (step m c).state cs) f).answer ≡ finished e.code e.word 0 0

-- ── No wait outlives its time-out, and none times out before ──

-- How many of these are ticks.
unfoldable pub ticks : List Call → ℕ
ticks [] = 0
ticks (c ∷ cs) = cond (is_tick c) (suc (ticks cs)) (ticks cs)

-- The wait that task t has in m goes on through these calls and ticks: the task waits in every state from m to the last.
unfoldable pub GoesOn : ℕ → Model → List Call → Type 0
GoesOn t m [] = T (is_waiting m.rows t)
GoesOn t m (c ∷ cs) = T (is_waiting m.rows t) × GoesOn t (step m c).state cs

-- It is one and the same wait: the task's row doesn't change.
abbrev pub SameWaitGoesOn : Type 0
SameWaitGoesOn = (m : Model) (t : ℕ) → WellFormed m → (cs : List Call) → GoesOn t m cs → (end step m cs).rows (task t) ≡ m.rows (task t)

-- A wait with an end tick doesn't go on through calls that hold as many ticks as are left to it, or more.
abbrev pub NoWaitOutlivesTimeOut : Type 0
NoWaitOutlivesTimeOut =
    (m : Model) (t tick : ℕ) → WellFormed m → wait_end (m.rows (task t)).wait ≡ At tick
    → (cs : List Call) → ticks_left m.environment.counter tick ≤ ticks cs → GoesOn t m cs → ⊥

-- Tick k from m on ends the wait that task t has in m, and no tick before: of the ticks that come while the wait goes on, the one that is the k-th.
abbrev pub EndsInTick : ℕ → Model → ℕ → Type 0
EndsInTick t m k =
    (cs : List Call) → GoesOn t m cs → (c : Call) → T (is_tick c)
    → due_to (end step m cs) c t ≡ cond (eqb (suc (ticks cs)) k) (some timed_out) none

-- It ends in the last of the ticks that are left to it.
abbrev pub LastTickEndsWait : Type 0
LastTickEndsWait =
    (m : Model) (t tick : ℕ) → WellFormed m → wait_end (m.rows (task t)).wait ≡ At tick → EndsInTick t m (ticks_left m.environment.counter tick)

-- The call begins a wait with tmout n.
pub record BeginsWithTmout (m : Model) (c : Call) (n : ℕ) : Type 0 where
  pub waits : T (is_wait (step m c).answer.outcome)
  pub timed : T (has_tmout c)
  pub tmout_is : c.tmout ≡ pos n

-- So a wait begun with tmout n doesn't go on through n + 1 ticks after the call;
abbrev pub NoWaitOutlivesTmout : Type 0
NoWaitOutlivesTmout =
    (m : Model) (c : Call) (n : ℕ) → WellFormed m → BeginsWithTmout m c n
    → (cs : List Call) → suc n ≤ ticks cs → GoesOn c.caller (step m c).state cs → ⊥

-- and it ends in tick n + 1 (document 02, item 1): tmout n waits at least n ms and less than n + 1.
abbrev pub TickAfterTmoutEndsWait : Type 0
TickAfterTmoutEndsWait = (m : Model) (c : Call) (n : ℕ) → WellFormed m → BeginsWithTmout m c n → EndsInTick c.caller (step m c).state (suc n)

-- None begins with tmout 0, which polls; its end tick, 1 tick away, would be sound.
abbrev pub Tmout0BeginsNoWait : Type 0
Tmout0BeginsNoWait = (m : Model) (c : Call) → BeginsWithTmout m c 0 → ⊥

-- In no well-formed model has the counter come to the end tick of a wait that still goes on.
abbrev pub EndTickNotReached : Type 0
EndTickNotReached = (m : Model) (t : ℕ) → WellFormed m → wait_end (m.rows (task t)).wait ≡ At m.environment.counter → ⊥
