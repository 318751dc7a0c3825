-- A mailbox is created or deleted: one new row where nobody waits and no message is queued; before a delete the waits end and the messages are freed.
use mathlib.Core.Path.{◌≡◌, refl, sym, ap, ◌∙◌}
use mathlib.Core.Bool.{Bool, true, false, not, cond}
use mathlib.Core.List.{List, []}
use Prim.Native.Nat.{ℕ, ◌+◌}
use native.Mathlib.Omega.{arith}
use lib.Dec.{T}
use Rattle.lists.specs.Lists.{one_of}
use Rattle.rows.specs.Program.{update}
use Rattle.chain.specs.Changes.{HasChain, Changed}
use Rattle.model.specs.Sizes.{message_limit}
use Rattle.model.specs.Rows.{mailbox, same_key, messages_by_priority, no_mailbox}
use Rattle.model.specs.Codes.{finished}
use Rattle.model.specs.Mailboxes.{create, delete}
use Rattle.model.specs.Waits.{WaitQueue, waiters_of}
use Rattle.model.specs.declared.Code.TheVariants.{Ok as E_OK, Dlt as E_DLT}
use Rattle.model.proofs.After.{after_return, after_put, after_free_messages}
use Rattle.model.proofs.Standing.{put_twice}
use Rattle.parts.specs.Chains.{message_chains}
use Rattle.record.specs.declared.State.{State}
use Rattle.record.specs.Meaning.{abs}
use Rattle.record.specs.Step.{Does}
use Rattle.record.proofs.Standing.{standing_is, messages_are}
use Rattle.record.proofs.Laws.{with_mailbox, and_then, meaning, does, does_rest}
use Rattle.record.proofs.Laws as laws
use Rattle.waits.specs.Waiting.{ChainOf, Cleared}
use Rattle.waits.proofs.Laws.{rows_of}
use Rattle.mailboxes.specs.Premises.{mailbox_in, Creatable, OnMailbox}
use Rattle.mailboxes.proofs.Laws.{has_messages, messages_cleared, no_message_left, mailbox_put}
use Rattle.mailboxes.proofs.Effects.{valid_number, own_chain}

-- ── A new mailbox ──

module _ {s : State} {b attribute highest : ℕ} (a : Creatable s b attribute highest) where
  -- What is given as the highest message priority is what is kept.
  kept_is_given : cond (messages_by_priority attribute) highest 0 ≡ highest
  kept_is_given = go (messages_by_priority attribute) a.highest_kept
    where
      go : (x : Bool) → (T (not x) → highest ≡ 0) → cond x highest 0 ≡ highest
      go true f = refl
      go false f = sym (f tt)

  pub created : Does (create b attribute highest) s (record {
    state = with_mailbox b (record { defined = 1; attribute = attribute; highest = highest }) s;
    answer = finished E_OK 0 0 0;
  })
  created =
      let none = ((rows_of a.sound).mailboxes b).undefined a.undefined in
      let no_waiter = sym (standing_is s (waiters_of b) a.valid_mailbox) ∙ none.0 in
      let no_message = sym (messages_are s b a.valid_mailbox) ∙ none.1 in
      does (after_put (after_return (
        meaning (ap (λ n. update same_key (mailbox b) (record { defined = true; attribute = attribute; highest = n; waiters = []; messages = [] }) (abs s).rows) kept_is_given)
            (mailbox_put a.sound.readable b a.valid_mailbox _ no_waiter no_message (omega arith)),
        refl,
      )))

-- ── A mailbox is deleted ──

-- s₀ is the record before, s the record in which all waits at the mailbox have ended.
module _ {s₀ s : State} {b : ℕ} (a : OnMailbox s₀ b) (cleared : (k : WaitQueue) → ChainOf k (32 + b) → Cleared k E_DLT s₀ s) where
  waits_over : Cleared (waiters_of b) E_DLT s₀ s
  waits_over = cleared (waiters_of b) (own_chain a)

  pub messages_left : HasChain message_limit message_chains b s.messages.link
  messages_left = has_messages waits_over.sound.readable b (valid_number a)

  pub deleted : {link : List ℕ} → Changed message_limit message_chains b s.messages.link link [] → Does (delete b (mailbox_in s₀ b)) s₀ (record {
    state = with_mailbox b (record { defined = 0; attribute = 0; highest = 0 }) (laws.with_messages (record { link = link; key = s.messages.key }) s);
    answer = finished E_OK 0 0 0;
  })
  unfolding one_of
  deleted d =
      let valid_b = valid_number a in
      let freed = messages_cleared waits_over.sound.readable b valid_b d in
      let no_waiter = sym (standing_is s (waiters_of b) valid_b) ∙ waits_over.no_one in
      rw (← waits_over.messages b)
      (does_rest (waits_over.runs _) waits_over.counter_is
      (does (after_free_messages _ _ (abs s).rows (after_put (after_return (
        meaning (ap (update same_key (mailbox b) no_mailbox) freed.rows_are ∙ put_twice (mailbox b) _ _ _)
            (and_then freed (mailbox_put freed.readable b valid_b _ no_waiter (no_message_left waits_over.sound.readable b valid_b d) (omega arith))),
        refl,
      ))))))
