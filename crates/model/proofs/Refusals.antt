-- The table refuses and nothing else does: a call by cases, refused or not, and the answers of its effect.
use mathlib.Core.Path.{◌∙◌, ap}
use mathlib.Core.Option.{Option, none, some}
use Rattle.lists.specs.Options.{IfSome}
use Rattle.lists.proofs.Each.{each_of_all}
use Rattle.rows.specs.Program as Program
use Rattle.rows.specs.Program.{step_of}
use Rattle.rows.proofs.Footprint.{Closed, answer_is}
use Rattle.model.specs.Rows.{Key, task, suspension, queue, mailbox, message, same_key, Row}
use Rattle.model.specs.Calls.{view_of}
use Rattle.model.specs.Waits.{object_named}
use Rattle.model.specs.Step.{effect}
use Rattle.model.specs.Isolation.{QueuedIn}
use Rattle.model.specs.Refusals.{Refusals}
use Rattle.model.proofs.Accepted.{passes, accepted}
use Rattle.model.proofs.Step.{step_call, run_refused, run_accepted}
use Rattle.model.proofs.Footprints.{NamedIn, AnswersNoError, ViewWithin, in_effect}

-- Every row is within the set of all rows, and names nothing outside it.
abbrev Everything : Key → Type 0
Everything k = Unit

if_some : (x : Option Key) → IfSome Everything x
if_some none = tt
if_some (some k) = tt

closed : (m : Program.Rows Row) → Closed NamedIn Everything m
unfolding QueuedIn
closed m (task n) s = if_some (object_named (m (task n)).wait)
closed m (suspension n) s = tt
closed m (queue n) s = (each_of_all (λ t. tt) _, each_of_all (λ t. tt) _)
closed m (mailbox n) s = (each_of_all (λ t. tt) _, each_of_all (λ g. tt) _)
closed m (message n) s = λ t. tt

pub refusals : Refusals
unfolding step_of
refusals m c t = record {
  by_row = λ r. step_call m c t ∙ ap (λ o. record { state = record { environment = m.environment; rows = o.state }; answer = o.answer }) (run_refused m c r);
  else_no_error = λ r n.
      let v = view_of m c in
      let shown : ViewWithin Everything v = record { senders = each_of_all (λ t. tt) _; receivers = each_of_all (λ t. tt) _; waiters = each_of_all (λ t. tt) _; messages = each_of_all (λ g. tt) _ } in
      rw (step_call m c t, run_accepted m c r)
      (answer_is same_key NamedIn Everything (AnswersNoError c.number) (effect m.environment v c) m.rows
      (in_effect Everything m.environment v c shown (accepted Everything v c (each_of_all (λ k t. tt) _) r) (passes v c r))
      (closed m.rows) n);
}
