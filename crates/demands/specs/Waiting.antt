-- Demand 2: when a call waits, and "each wait ends with the code and word due to it". What is due, and to whom, stands in crate model (Endings.antt); here it
-- is said of records.
use Rattle.std.specs.Prelude.{◌≡◌, Bool, true, not, ◌&&◌, ℕ, ◌<◌, T, eqb}
use Rattle.std.proofs.Math.Option.{none, some}
use Rattle.lists.specs.Lists.{ascending}
use Rattle.model.specs.Sizes.{task_limit, message_limit}
use Rattle.model.specs.Rows.{task, TaskRow}
use Rattle.model.specs.Codes.{Values, values}
use Rattle.model.specs.Calls.{may_wait, names_message, task_priority_of}
use Rattle.model.specs.Waits.{starting, ended}
use Rattle.model.specs.Errors.{refused, would_wait}
use Rattle.model.specs.Answers.{is_wait}
use Rattle.model.specs.Endings.{is_waiting, CodeAndWord, ended_with, ended_waits, ends_among, due_to, begun_wait, defines}
use Rattle.model.specs.Engine.{Engine, Stepped}
use Rattle.model.specs.declared.Answer.{Answer}
use Rattle.model.specs.declared.Call.{Call}
use Rattle.model.specs.declared.Code.TheVariants.{Ok as E_OK}
use Rattle.model.specs.declared.Outcome.TheVariants.{Waits}
use Rattle.model.specs.declared.Wait.TheVariants.{NoWait}
use Rattle.demands.specs.Handled.{view_in}

-- The row of task t in this record, and whether it waits there.
abbrev pub task_in : {S : Type 0} → Engine S → S → ℕ → TaskRow
task_in E s t = (E.abs s).rows (task t)

abbrev pub waits_in : {S : Type 0} → Engine S → S → ℕ → Bool
waits_in E s t = is_waiting (E.abs s).rows t

-- By this answer a wait of task t begins: the call is the task's, and the answer is "waits", which is kind 1.
abbrev pub wait_begins_by : Call → Values → ℕ → Bool
wait_begins_by c x t = eqb x.kind 1 && eqb t c.caller

-- What a step that gave `after` and the answer did to task t.
pub record TaskAsDue {S : Type 0} (E : Engine S) (s : S) (c : Call) (after : S) (answer : Answer) (t : ℕ) : Type 0 where
  -- A wait to which something is due is over, with that code and word stored.
  pub ends : (e : CodeAndWord) → T (waits_in E s t) → due_to (E.abs s) c t ≡ some e → task_in E after t ≡ ended e.code e.word (task_in E s t)
  -- Every other wait goes on as it was.
  pub goes_on : T (waits_in E s t) → due_to (E.abs s) c t ≡ none → task_in E after t ≡ task_in E s t
  -- To a task that doesn't wait nothing is due.
  pub nothing_due : T (not (waits_in E s t)) → due_to (E.abs s) c t ≡ none
  -- Where a call of such a task is answered "waits", its wait begins, at the object that the call names, and its stored pair is set to 0 and 0.
  pub begins : T (wait_begins_by c (values answer) t) → T (not (waits_in E s t)) × (task_in E after t ≡ starting (begun_wait (E.abs s) c) (task_in E s t))
  -- A new task doesn't wait, and its stored pair is 0 and 0.
  pub defined : T (defines (E.abs s) c t)
      → T (not (task_in E s t).defined) × (task_in E after t ≡ record { defined = true; priority = task_priority_of c; wait = NoWait; code = E_OK; word = 0 })
  -- In any other step a task that doesn't wait stays as it was, with its stored pair. So no other wait begins.
  pub stays : T (not (waits_in E s t)) → T (not (wait_begins_by c (values answer) t)) → T (not (defines (E.abs s) c t)) → task_in E after t ≡ task_in E s t

-- The sound record s with the call or tick c gave `after` and the answer.
pub record WaitsAsDueSo {S : Type 0} (E : Engine S) (s : S) (c : Call) (after : S) (answer : Answer) : Type 0 where
  -- The answer is "waits" exactly where the call is one of the six that may wait, no row of the error table refuses it, and it would have to wait.
  pub waits_where : is_wait answer.outcome ≡ (may_wait c && not (refused (view_in E s c) c) && would_wait (view_in E s c) c)
  -- "Place is the number of waiters that stay ahead of it, 0 to 31"; and call 14's a is 0 to 63.
  pub place_below : (place : ℕ) → answer.outcome ≡ Waits place → place < task_limit
  pub messages_ahead_below : T (names_message c) → answer.a < message_limit
  -- The waits that have ended in `after`, in ascending task number, are those to which something was due, each with the code and word due to it;
  pub ended_as_due : ended_waits (E.abs s).rows (E.abs after).rows ≡ ends_among (due_to (E.abs s) c) (ascending 1 task_limit)
  -- and so it is task by task.
  pub each_as_due : (t : ℕ) → ended_with (E.abs s).rows (E.abs after).rows t ≡ due_to (E.abs s) c t
  pub tasks : (t : ℕ) → TaskAsDue E s c after answer t

abbrev pub WaitsAsDue : {S : Type 0} → Engine S → Type 0
WaitsAsDue {S} E = (s : S) → E.Sound s → (c : Call) (after : S) (answer : Answer) → Stepped E s c after answer → WaitsAsDueSo E s c after answer
