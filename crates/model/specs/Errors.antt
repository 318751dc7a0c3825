-- Document 01, "Error numbers and their order": the table, row by row, and what a refusal is.
use Rattle.std.specs.Prelude.{Bool, false, not, ◌&&◌, ◌||◌, cond, List, [], ◌∷◌, ◌++◌, eqb, ltb, ℤ, pos, negsuc}
use Rattle.std.specs.Int.Signed.{lt_z}
use Rattle.lists.specs.Lists.{empty}
use Rattle.rows.specs.Program.{provided◌then◌else◌}
use Rattle.model.specs.Sizes.{call_limit, task_limit, capacity_limit, priority_limit, tmout_limit, within}
use Rattle.model.specs.Rows.{task, queue, mailbox, message, valid, has_room, messages_by_priority, Effect}
use Rattle.model.specs.Waits.{able}
use Rattle.model.specs.Codes.{Code, E_OK, E_SYS, E_PAR, E_ID, E_CTX, E_ILUSE, E_OBJ, E_NOEXS, E_QOVR, E_TMOUT, minus, refuse}
use Rattle.model.specs.Calls.{Call, is_tick, task_only, creates, defines_task, creates_queue, creates_mailbox, sends_for_room, sends_forced}
use Rattle.model.specs.Calls.{receives_word, receives_message, may_wait, polls_by_name, has_tmout, releases, suspends, resumes, fetches, names_task}
use Rattle.model.specs.Calls.{names_queue, names_mailbox, names_message, message_of, capacity_of, task_priority_of, highest_of, message_priority_of}
use Rattle.model.specs.Calls.{CallerView, View}

-- ── Step 0 ──

-- A call made by itself. Number 0 is the tick, which goes past this table (`step`).
unfoldable pub unknown : Call → Bool
unknown c = ltb call_limit c.number

-- A record in a table of calls (document 02, item 2): there is no tick there.
unfoldable pub unknown_in_table : Call → Bool
unknown_in_table c = is_tick c || unknown c

-- ── Step 1 ──

-- "State not sound" is asked of the record, before this table (Engine.antt: `Stepped`): rows can't be unsound. Then:
unfoldable pub caller_cannot_call : CallerView → Call → Bool
caller_cannot_call caller c =
    not (eqb c.caller 0)
    && (ltb task_limit c.caller
    || not caller.row.defined
    || not (able caller.row.wait)
    || caller.suspended)

-- ── Step 2 ──

unfoldable pub called_while_locked : Call → Bool
called_while_locked c = c.locked && within 1 call_limit c.number

unfoldable pub called_by_handler : Call → Bool
called_by_handler c = eqb c.caller 0 && task_only c

-- The last case of step 2: only a task can name itself.
unfoldable pub suspends_itself : Call → Bool
suspends_itself c = suspends c && eqb c.object c.caller && not (eqb c.caller 0)

unfoldable pub called_while_disabled : Call → Bool
called_while_disabled c = c.disabled && (may_wait c || suspends_itself c)

-- ── Step 3 ──

-- `valid` starts at 1, so 0 is refused.
unfoldable pub number_outside : Call → Bool
number_outside c =
    names_task c && not (valid (task c.object))
    || names_queue c && not (valid (queue c.object))
    || names_mailbox c && not (valid (mailbox c.object))

-- ── Step 4 ──

unfoldable pub tmout_outside : Call → Bool
tmout_outside c = has_tmout c && (lt_z c.tmout (minus 1) || lt_z (pos tmout_limit) c.tmout)

unfoldable pub attribute_outside : Call → Bool
attribute_outside c = creates_queue c && not (within 0 1 c.attribute) || creates_mailbox c && not (within 0 3 c.attribute)

unfoldable pub capacity_outside : Call → Bool
capacity_outside c = creates_queue c && ltb capacity_limit (capacity_of c)

unfoldable pub task_priority_outside : Call → Bool
task_priority_outside c = defines_task c && not (within 1 priority_limit (task_priority_of c))

unfoldable pub message_outside : Call → Bool
message_outside c = names_message c && not (valid (message (message_of c)))

unfoldable pub highest_outside : Call → Bool
highest_outside c = creates_mailbox c && messages_by_priority c.attribute && not (within 1 priority_limit (highest_of c))

-- ── Step 5 ──

unfoldable pub exists : View → Call → Bool
exists v c =
    names_task c && v.the_task.defined
    || names_queue c && v.the_queue.defined
    || names_mailbox c && v.the_mailbox.defined

unfoldable pub missing : View → Call → Bool
missing v c = not (creates c) && not (exists v c)

-- ── Steps 6a to 6d ──

unfoldable pub message_priority_outside : View → Call → Bool
message_priority_outside v c =
    names_message c
    && messages_by_priority v.the_mailbox.attribute
    && not (within 1 v.the_mailbox.highest (message_priority_of c))

unfoldable pub wrong_state : View → Call → Bool
wrong_state v c =
    creates c && exists v c  -- already exists
    || names_message c && not (eqb v.the_message.queued_in 0)  -- already queued in some mailbox
    || releases c && able v.the_task.wait  -- not waiting
    || resumes c && not v.suspended  -- not suspended
    || fetches c && not (able v.the_task.wait)  -- waiting

unfoldable pub suspended_already : View → Call → Bool
suspended_already v c = suspends c && v.suspended

-- Source 004 decides: a waiting receiver is served, whatever the capacity.
unfoldable pub nothing_to_drop : View → Call → Bool
nothing_to_drop v c = sends_forced c && eqb v.the_queue.capacity 0 && empty v.the_queue.receivers

-- ── Step 7 ──

abbrev pub is_zero : ℤ → Bool
is_zero (pos n) = eqb n 0
is_zero (negsuc n) = false

unfoldable pub polls : Call → Bool
polls c = polls_by_name c || has_tmout c && is_zero c.tmout

unfoldable pub would_wait : View → Call → Bool
would_wait v c =
    sends_for_room c && empty v.the_queue.receivers && not (has_room v.the_queue)  -- nobody to give the word to, and no room
    || receives_word c && empty v.the_queue.words && empty v.the_queue.senders  -- no word stored, and none to be had
    || receives_message c && empty v.the_mailbox.messages  -- no message queued

-- ── The table ──

pub record ErrorRow : Type 0 where
  pub code : Code
  pub applies : Bool

infix 66 ◌when◌
abbrev pub ◌when◌ : Code → Bool → ErrorRow
code when applies = record { code = code; applies = applies }

-- Steps 0 to 4: the call and its caller.
unfoldable pub rows_to_step_4 : CallerView → Call → List ErrorRow
rows_to_step_4 caller c =
    (E_PAR when unknown c)  -- 0
    ∷ (E_SYS when caller_cannot_call caller c)  -- 1
    ∷ (E_CTX when (called_while_locked c || called_by_handler c || called_while_disabled c))  -- 2
    ∷ (E_ID when number_outside c)  -- 3
    ∷ (E_PAR when (tmout_outside c || attribute_outside c || capacity_outside c || task_priority_outside c || message_outside c || highest_outside c))  -- 4
    ∷ []

-- Steps 5 to 7: the rows that it names.
unfoldable pub rows_from_step_5 : View → Call → List ErrorRow
rows_from_step_5 v c =
    (E_NOEXS when missing v c)  -- 5
    ∷ (E_PAR when message_priority_outside v c)  -- 6a
    ∷ (E_OBJ when wrong_state v c)  -- 6b
    ∷ (E_QOVR when suspended_already v c)  -- 6c
    ∷ (E_ILUSE when nothing_to_drop v c)  -- 6d
    ∷ (E_TMOUT when (polls c && would_wait v c))  -- 7
    ∷ []

unfoldable pub error_table : View → Call → List ErrorRow
error_table v c = rows_to_step_4 v.caller c ++ rows_from_step_5 v c

-- A call is refused where some row applies, with the code of the first that does. E_OK where none does is never looked at.
-- (fetch hands out the code of an ended wait, which is no refusal: no row gives it.)
unfoldable pub some_applies : List ErrorRow → Bool
some_applies [] = false
some_applies (row ∷ rows) = row.applies || some_applies rows

unfoldable pub first_that_applies : List ErrorRow → Code
first_that_applies [] = E_OK
first_that_applies (row ∷ rows) = cond row.applies row.code (first_that_applies rows)

unfoldable pub refused : View → Call → Bool
refused v c = some_applies (error_table v c)

unfoldable pub refusal : View → Call → Code
refusal v c = first_that_applies (error_table v c)

-- The first of these rows that applies refuses; where none does, the rest follows.
unfoldable pub unless_refused : List ErrorRow → Effect → Effect
unless_refused rows rest = provided some_applies rows then refuse (first_that_applies rows) else rest
