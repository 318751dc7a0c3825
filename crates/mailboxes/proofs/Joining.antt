-- For the caller of `waits::join`: a task may wait for a message where the mailbox is defined and the task is able, and what `join` leaves is the program's two puts.
use mathlib.Core.Path.{◌≡◌}
use mathlib.Core.Bool.{Bool}
use Prim.Native.Nat.{ℕ}
use lib.Dec.{T}
use Rattle.model.specs.Rows.{task, waiters_by_priority}
use Rattle.model.specs.Mailboxes.{wait_for_message}
use Rattle.model.specs.WaitQueues.{set_standing}
use Rattle.model.specs.Waits.{waiters_of}
use Rattle.model.specs.declared.End.{End}
use Rattle.model.specs.declared.Wait.TheVariants.{NoWait, AtMailbox}
use Rattle.model.proofs.After.{after_return, after_put, after_get_each}
use Rattle.parts.specs.Chains.{wait_chain}
use Rattle.record.specs.declared.State.{State}
use Rattle.record.specs.declared.Step.{Step}
use Rattle.record.specs.Meaning.{abs}
use Rattle.record.specs.Step.{Does}
use Rattle.record.proofs.Laws.{does}
use Rattle.waits.specs.Waiting.{Joinable, Joined}
use Rattle.mailboxes.specs.Premises.{mailbox_in, OnMailbox}
use Rattle.mailboxes.proofs.Effects.{on_waiters, own_chain}

module _ {s : State} {b me : ℕ} (a : OnMailbox s b) where
  pub may_wait : (end : End) → T ((abs s).rows (task me)).defined → ((abs s).rows (task me)).wait ≡ NoWait → Joinable s (wait_chain (AtMailbox b end)) me
  may_wait end defined able = record { on = on_waiters a; defined = defined; able = able }

  pub waits_for_message : {ranked : Bool} {end : End} {r : Step} → ranked ≡ waiters_by_priority (mailbox_in s b).attribute → Joined s (wait_chain (AtMailbox b end)) me ranked (AtMailbox b end) r
      → Does (wait_for_message b (mailbox_in s b) me ((abs s).rows (task me)) end) s r
  unfolding wait_for_message set_standing
  waits_for_message by p = does (after_get_each task _ _ _ (after_put (after_put (after_return
      (rw by at (p.becomes (waiters_of b) (own_chain a)), rw by at (p.answer_is (waiters_of b) (own_chain a)))))))
