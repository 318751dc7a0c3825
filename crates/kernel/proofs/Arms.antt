-- What each arm of `apply` asks and does: the decision's premises as the effect has them, and the effect's promise as the decision has it.
use mathlib.Core.Path.{◌≡◌, sym, ap, ◌∙◌}
use mathlib.Core.Bool.{Bool, not}
use Prim.Native.Nat.{ℕ}
use lib.Dec.{T, T_not}
use Rattle.rows.specs.Program.{Result}
use Rattle.model.specs.Rows.{Model, Effect}
use Rattle.model.specs.declared.Answer.{Answer}
use Rattle.model.specs.declared.Wait.{Wait}
use Rattle.model.specs.declared.Wait.TheVariants.{NoWait, Sending, Receiving, AtMailbox}
use Rattle.decide.specs.Decisions.{ran, after, joining, QueueThere, MailboxThere, CanWait, MayJoin}
use Rattle.decide.specs.Touches.{changed_by}
use Rattle.decide.specs.declared.Decision.{Decision}
use Rattle.decide.proofs.Untouched.{leaves_alone}
use Rattle.parts.specs.Chains.{wait_chain}
use Rattle.record.specs.declared.State.{State}
use Rattle.record.specs.declared.Step.{Step}
use Rattle.record.specs.Meaning.{abs}
use Rattle.record.specs.Sound.{Readable, Sound}
use Rattle.record.specs.Step.{Does}
use Rattle.waits.specs.Waiting.{Joinable, Joined}
use Rattle.data_queues.specs.Premises.{AtQueue}
use Rattle.data_queues.proofs.Waiting.{may_wait_to_send, may_wait_to_receive, waits_to_send, waits_to_receive}
use Rattle.mailboxes.specs.Premises.{OnMailbox}
use Rattle.mailboxes.proofs.Joining.{may_wait, waits_for_message}
use Rattle.kernel.specs.Steps.{Applied}

-- ── What is asked ──

pub at_queue : {s : State} {q : ℕ} → Sound s → QueueThere (abs s) q → AtQueue s q
at_queue S h = record { sound = S; valid_queue = h.valid_queue; defined = h.defined }

pub on_mailbox : {s : State} {b : ℕ} → Sound s → MailboxThere (abs s) b → OnMailbox s b
on_mailbox S h = record { sound = S; defined = h.defined }

pub may_join : {s : State} {me : ℕ} (ranked : Bool) (wait : Wait) → Sound s → CanWait (abs s) me → MayJoin (abs s) ranked wait → Joinable s (wait_chain wait) me
may_join ranked NoWait S me h = absurd h
may_join ranked (Sending q end word) S me h = may_wait_to_send (at_queue S h.0) end me.defined me.able word
may_join ranked (Receiving q end) S me h = may_wait_to_receive (at_queue S h.0) end me.defined me.able
may_join ranked (AtMailbox b end) S me h = may_wait (on_mailbox S h.0) end me.defined me.able

-- ── What is done ──

module _ {s : State} {r : Step} (d : Decision) where
  pub nothing_done : T (not (changed_by d)) → r ≡ record { state = s; answer = (after (abs s) d).answer } → Applied s d r
  nothing_done n e =
      let same : r.state ≡ s = ap (λ (x : Step). x.state) e in
      record {
        meaning_is = ap abs same ∙ sym (leaves_alone d n (abs s));
        answer_is = ap (λ (x : Step). x.answer) e;
        readable = λ R. rw same R;
        unchanged = λ t. same;
      }

  -- A decision that changes something: state and answer as the definition's program, or its tick, leaves them.
  pub something_done : T (changed_by d) → abs r.state ≡ (after (abs s) d).state → r.answer ≡ (after (abs s) d).answer → Readable r.state → Applied s d r
  something_done t m a R = record { meaning_is = m; answer_is = a; readable = λ _. R; unchanged = λ n. absurd (T_not (changed_by d) n t) }

  pub done : {p : Effect} → T (changed_by d) → Does p s r → after (abs s) d ≡ ran (abs s) p → Applied s d r
  unfolding ran
  done t h e = something_done t
      ((λ i. record { environment = h.becomes.environment_is i; rows = h.becomes.rows_are i }) ∙ ap (λ (o : Result Model Answer). o.state) (sym e))
      (h.answer_is ∙ ap (λ (o : Result Model Answer). o.answer) (sym e))
      h.becomes.readable

pub joined : {s : State} {me : ℕ} {r : Step} (ranked : Bool) (wait : Wait) → Sound s → MayJoin (abs s) ranked wait → Joined s (wait_chain wait) me ranked wait r
    → Does (joining (abs s).rows me wait) s r
joined ranked NoWait S h j = absurd h
joined ranked (Sending q end word) S h j = waits_to_send (at_queue S h.0) h.1 j
joined ranked (Receiving q end) S h j = waits_to_receive (at_queue S h.0) h.1 j
joined ranked (AtMailbox b end) S h j = waits_for_message (on_mailbox S h.0) h.1 j
