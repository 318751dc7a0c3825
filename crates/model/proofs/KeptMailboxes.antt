-- The calls on mailboxes keep the rows well-formed: by the moves, branch by branch as the programs go.
use mathlib.Core.Path.{◌≡◌, refl, sym, ◌∙◌, ap, subst}
use mathlib.Core.Bool.{not, cond}
use mathlib.Core.List.{List, map}
use Prim.Native.Nat.{ℕ, ◌≤◌}
use native.Mathlib.Omega.{arith}
use lib.Dec.{T, T_not, eqb}
use lib.ListN.{length}
use mir.Facts.{T_not-not}
use Rattle.lists.specs.Lists.{empty, passed, one_of}
use Rattle.lists.proofs.Stands.{empty_nil}
use Rattle.rows.specs.Program as Program
use Rattle.rows.specs.Program.{update}
use Rattle.model.specs.Sizes.{priority_limit}
use Rattle.model.specs.Rows.{task, mailbox, message, same_key, valid, Row, MailboxRow, Environment, Effect, waiters_by_priority, messages_by_priority, no_mailbox}
use Rattle.model.specs.Codes.{E_OK, E_DLT}
use Rattle.model.specs.Calls.{Call, View, highest_of}
use Rattle.model.specs.Waits.{End, AtMailbox, waiters_of}
use Rattle.model.specs.WaitQueues.{place, release, set_standing}
use Rattle.model.specs.Mailboxes.{deliver_message, queue_message, take_message, wait_for_message, send_message, receive_message, cre_mbx, del_mbx}
use Rattle.model.specs.WellFormed.{WellFormedRows}
use Rattle.model.proofs.Choices.{cond_yes}
use Rattle.model.proofs.WaitMoves.{defined_mailbox, leave_head, join}
use Rattle.model.proofs.RowMoves.{with_message_rows, freed}
use Rattle.model.proofs.MessageMoves.{join_message, take_head, replace_mailbox, new_mailbox}
use Rattle.model.proofs.After.{After, after_return, after_get, after_put, after_if, after_get_each, after_free_messages, Kept}
use Rattle.model.proofs.EndWaits.{after_end_waits}
use Rattle.model.proofs.KeptQueues.{CanWait}

module _ {m : Program.Rows Row} (w : WellFormedRows m) (b : ℕ) (defined : T (m (mailbox b)).defined) where
  abbrev x : MailboxRow
  x = m (mailbox b)

  valid_mailbox : T (valid (mailbox b))
  valid_mailbox = defined_mailbox w b defined

  -- ── Send ──

  kept_deliver_message : (g : ℕ) → T (not (empty x.waiters)) → After Kept (deliver_message b x g) m
  unfolding deliver_message release set_standing same_key update
  kept_deliver_message g some_waiter = after_put (after_get (after_put (after_return (leave_head w (waiters_of b) E_OK g tt some_waiter))))

  -- A free message; its priority is that of the mailbox's range where messages go by priority.
  module _ (g priority : ℕ) (valid_message : T (valid (message g))) (is_free : T (eqb (m (message g)).queued_in 0))
      (in_range : T (messages_by_priority x.attribute) → (1 ≤ priority) × (priority ≤ x.highest)) where
    kept_queue_message : T (empty x.waiters) → After Kept (queue_message b x g priority) m
    unfolding queue_message place
    kept_queue_message no_waiter =
        after_get_each message _ _ _ (after_put (after_put (after_return (join_message w b valid_mailbox g _ _ defined no_waiter valid_message is_free by_priority))))
      where
        keys : List ℕ
        keys = map (λ j. (m (message j)).priority) x.messages

        kept : ℕ
        kept = cond (messages_by_priority x.attribute) priority 0

        by_priority : T (messages_by_priority x.attribute) → (1 ≤ kept) × (kept ≤ x.highest) × (place (messages_by_priority x.attribute) priority keys ≡ passed kept keys)
        by_priority q =
            let is = cond_yes (messages_by_priority x.attribute) priority 0 q in
            (rw is (in_range q).0, rw is (in_range q).1, cond_yes (messages_by_priority x.attribute) (passed priority keys) (length keys) q ∙ ap (λ p. passed p keys) (sym is))

    pub kept_send_message : After Kept (send_message b x g priority) m
    unfolding send_message
    kept_send_message = after_if (kept_deliver_message g) (λ none. kept_queue_message (T_not-not (empty x.waiters) none))

  -- ── Receive ──

  pub kept_receive_message : (otherwise : Effect) → (T (empty x.messages) → After Kept otherwise m) → After Kept (receive_message b x otherwise) m
  unfolding receive_message take_message
  kept_receive_message otherwise h = after_if (λ some. after_put (after_put (after_return (take_head w b valid_mailbox some)))) (λ none. h (T_not-not (empty x.messages) none))

  -- At a mailbox with no message.
  pub kept_wait_for_message : (me : ℕ) (end : End) → T (empty x.messages) → CanWait m me → After Kept (wait_for_message b x me (m (task me)) end) m
  unfolding wait_for_message set_standing place
  kept_wait_for_message me end no_message can =
      after_get_each task _ _ _ (after_put (after_put (after_return
      (join w me (waiters_of b) _ (AtMailbox b end) can.defined can.able valid_mailbox
      (record {
        undefined = λ d. absurd (T_not x.defined d defined);
        attribute_in_range = (w.mailboxes b).attribute_in_range;
        highest_in_range = (w.mailboxes b).highest_in_range;
        waiters = λ s. empty_nil no_message;
      })
      refl (λ p. cond_yes (waiters_by_priority x.attribute) _ (length (map (λ n. (m (task n)).priority) x.waiters)) p)))))

-- ── Create and delete ──

module _ {m : Program.Rows Row} (w : WellFormedRows m) (e : Environment) (v : View) (c : Call) where
  pub kept_create_mailbox : T (valid (mailbox c.object)) → T (not (m (mailbox c.object)).defined) → c.attribute ≤ 3
      → (T (messages_by_priority c.attribute) → (1 ≤ highest_of c) × (highest_of c ≤ priority_limit)) → After Kept (cre_mbx e v c) m
  kept_create_mailbox valid_number undefined attribute highest =
      let before = (w.mailboxes c.object).undefined undefined in
      after_put (after_return (new_mailbox w c.object valid_number _ before.0 before.1 attribute
      (λ p. subst (λ h. (1 ≤ h) × (h ≤ priority_limit)) (sym (cond_yes (messages_by_priority c.attribute) (highest_of c) 0 p)) (highest p)) refl refl))

  pub kept_delete_mailbox : m (mailbox c.object) ≡ v.the_mailbox → T (m (mailbox c.object)).defined → After Kept (del_mbx e v c) m
  unfolding one_of
  kept_delete_mailbox shown defined =
      after_end_waits E_DLT tt (waiters_of c.object) _ _ m w (ap (λ (y : MailboxRow). y.waiters) shown) λ n u a.
      after_free_messages _ _ n (after_put (after_return
      (subst (λ (l : List ℕ). WellFormedRows (update same_key (mailbox c.object) no_mailbox (with_message_rows (freed l n) n)))
      (a.messages c.object ∙ ap (λ (y : MailboxRow). y.messages) shown)
      (replace_mailbox u c.object (defined_mailbox w c.object defined) no_mailbox a.no_one (omega arith) (λ p. absurd p) refl refl))))
