-- A call that is taken, with its number written out, so that what the number decides is computed: what it names is valid, what is seen are the state's own rows, and its step is its effect. Read off the error table.
use Rattle.std.proofs.Common.{◌≡◌, ℕ, suc, ◌≤◌, cond, not, T, eqb, sym, ap, ◌∙◌, subst, arith, T_not}
use native.Mathlib.Decide.{ℕ_discrete}
use Rattle.lists.proofs.Each.{each_of_all}
use Rattle.rows.specs.Program.{run, step_of}
use Rattle.errors.specs.Seen.{ShowsQueue, ShowsMailbox}
use Rattle.errors.specs.declared.Seen.{Seen}
use Rattle.model.specs.Rows.{task, queue, mailbox, message, valid, same_key, Model, Effect}
use Rattle.model.specs.Calls.{names_task, names_queue, names_mailbox, names_message, message_of, task_only, has_tmout, View, view_of}
use Rattle.model.specs.Errors.{refused}
use Rattle.model.specs.Step.{effect, step}
use Rattle.model.specs.declared.Call.{Call}
use Rattle.model.specs.Waits.{end_of}
use Rattle.model.specs.declared.End.{End}
use Rattle.model.specs.declared.End.TheVariants.{Never}
use Rattle.model.proofs.Accepted.{reads_named, Passes, passes, accepted}
use Rattle.model.proofs.Accepted as model
use Rattle.model.proofs.Checked.{caller_defined, caller_able}
use Rattle.model.proofs.KeptCalls.{Valid}
use Rattle.model.proofs.Step.{step_call, run_accepted, numbered}
use Rattle.model.proofs.Shown.{shown_caller, shown_task, shown_queue, shown_mailbox, shown_message}
use Rattle.decide.specs.Decisions.{ran, after, Ready, Taken, CanWait, Decided}
use Rattle.decide.specs.declared.Decision.{Decision}

-- ── The number, written out ──

-- The smallest number that it can be, or a larger one.
pub first_or : {X : Type 0} {k n : ℕ} → k ≤ n → (n ≡ k → X) → (suc k ≤ n → X) → X
first_or {X} {k} {n} l here rest = elim (ℕ_discrete n k) [ yes e ↦ here e | no f ↦ rest (omega (arith, f)) ]

-- What holds of a call with its number written out holds of it.
pub at_number : (P : Call → Type 0) {m : Model} {c : Call} {y : Seen} (n : ℕ) → Taken m c y → c.number ≡ n → (Taken m (numbered n c) y → P (numbered n c)) → P c
at_number P {m} {c} {y} n a e f =
    let call_is : c ≡ numbered n c = ap (λ k. numbered k c) e in
    subst P (sym call_is) (f (subst (λ (d : Call). Taken m d y) call_is a))

-- The end of the wait that a call may start.
abbrev pub ending : Seen → Call → End
ending y c = cond (has_tmout c) (end_of y.counter c.tmout) Never

module _ (n : ℕ) (c : Call) {m : Model} {y : Seen} (a : Taken m (numbered n c) y) where
  abbrev call : Call
  call = numbered n c

  abbrev pub view : View
  view = view_of m call

  -- ── What the error table says of it ──

  -- No row of the table applies.
  pub passed : Passes view call
  passed = passes view call a.accepted

  in_range : model.Accepted Valid call
  in_range = accepted Valid view call (each_of_all (λ k t. t) _) a.accepted

  pub valid_task : T (names_task call) → T (valid (task c.object))
  valid_task = in_range.task_in

  pub valid_queue : T (names_queue call) → T (valid (queue c.object))
  valid_queue = in_range.queue_in

  pub valid_mailbox : T (names_mailbox call) → T (valid (mailbox c.object))
  valid_mailbox = in_range.mailbox_in

  pub valid_message : T (names_message call) → T (valid (message (message_of c)))
  valid_message = in_range.message_in

  -- ── What it has in view ──

  pub caller_is : T (task_only call) → view.caller.row ≡ m.rows (task c.caller)
  caller_is t = shown_caller m call (in_range.caller_in t)

  pub the_task_is : T (names_task call) → view.the_task ≡ m.rows (task c.object)
  the_task_is t = shown_task m call t (valid_task t)

  pub the_queue_is : T (names_queue call) → view.the_queue ≡ m.rows (queue c.object)
  the_queue_is t = shown_queue m call t (valid_queue t)

  pub the_mailbox_is : T (names_mailbox call) → view.the_mailbox ≡ m.rows (mailbox c.object)
  the_mailbox_is t = shown_mailbox m call t (valid_mailbox t)

  pub the_message_is : T (names_message call) → view.the_message ≡ m.rows (message (message_of c))
  the_message_is t = shown_message m call t (valid_message t)

  -- ── What is seen ──

  pub queue_shown : T (names_queue call) → ShowsQueue (m.rows (queue c.object)) y.queue
  queue_shown t = subst (λ x. ShowsQueue x y.queue) (the_queue_is t) a.seen.shows.queue

  pub mailbox_shown : T (names_mailbox call) → ShowsMailbox (m.rows (mailbox c.object)) y.mailbox
  mailbox_shown t = subst (λ x. ShowsMailbox x y.mailbox) (the_mailbox_is t) a.seen.shows.mailbox

  -- A caller that is a task can wait.
  pub can_wait : T (task_only call) → CanWait m c.caller
  can_wait t = record {
    valid_task = in_range.caller_in t;
    defined = rw (← caller_is t) (caller_defined passed t);
    able = rw (← caller_is t) (caller_able passed t);
  }

  -- ── What it does ──

  steps_as : T (not (eqb n 0)) → step m call ≡ ran m (effect m.environment view call)
  unfolding step_of ran
  steps_as some = step_call m call some ∙ ap (λ o. record { state = record { environment = m.environment; rows = o.state }; answer = o.answer }) (run_accepted m call a.accepted)

  -- A decision that stands for a program which runs as the call's effect does.
  pub decided : {d : Decision} (p : Effect) → T (not (eqb n 0)) → run same_key (effect m.environment view call) m.rows ≡ run same_key p m.rows
      → after m d ≡ ran m p → Ready m d → Decided m call d
  unfolding ran
  decided p some e f ready = record {
    steps = steps_as some ∙ (ap (λ o. record { state = record { environment = m.environment; rows = o.state }; answer = o.answer }) e ∙ sym f);
    ready = ready;
    refuses = λ t r. absurd (T_not (refused view call) a.accepted r);
  }
