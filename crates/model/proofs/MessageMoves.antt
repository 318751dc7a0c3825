-- A message that joins or leaves a mailbox, and all messages of a mailbox freed with it, keep the rows well-formed: by the laws of numbers that stand in the
-- lists that they name.
use mathlib.Core.Path.{◌≡◌, refl, sym, ◌∙◌, ap, subst, fun_ext}
use mathlib.Core.Bool.{not}
use mathlib.Core.List.{List, [], map, tail, head_d, Memᴰ as In}
use mathlib.Core.Logic.{◌≢◌}
use mathlib.Core.Option.{some, none, none-ne-some, some-injective}
use Prim.Native.Nat.{ℕ, ◌≤◌}
use native.Mathlib.Decide.{ℕ_discrete}
use native.Mathlib.Omega.{arith}
use lib.Dec.{T, T_not, eqb}
use mir.Facts.{no_eqb}
use Rattle.lists.specs.Lists.{empty, insert_at, passed, one_of, InOrder, no_key, StandsWhereNamed}
use Rattle.lists.proofs.Members.{map_same}
use Rattle.lists.proofs.Stands.{in_head, without_head, stands_leave, stands_join, stands_clear}
use Rattle.rows.specs.Program as Program
use Rattle.rows.specs.Program.{update}
use Rattle.rows.proofs.Update.{update_same, update_other, update_cases}
use Rattle.model.specs.Sizes.{mailbox_limit, priority_limit}
use Rattle.model.specs.Rows.{Key, task, suspension, queue, mailbox, message, same_key, valid, Row, MailboxRow, MessageRow, messages_by_priority, free, with_messages}
use Rattle.model.specs.WellFormed.{named_mailbox, MailboxWellFormed, WellFormedRows}
use Rattle.model.specs.Waits.{waiters_of}
use Rattle.model.proofs.Tests.{from_within}
use Rattle.model.proofs.Choices.{cond_no, cond_both, cond_yes, cond_member, cond_no_member}
use Rattle.model.proofs.Standing.{changed, message_cases}
use Rattle.model.proofs.WaitMoves.{is_valid, in_order_with, in_order_without}
use Rattle.model.proofs.RowMoves.{with_message_rows, freed, own_messages, put_mailbox}

-- A mailbox's number isn't 0.
names_mailbox : (b p : ℕ) → T (valid (mailbox b)) → named_mailbox (record { queued_in = b; priority = p }) ≡ some b
names_mailbox b p t = cond_no (eqb b 0) none (some b) (no_eqb (λ (e : b ≡ 0). let h = from_within 1 mailbox_limit b t in omega arith))

-- ── One message ──

module _ {m : Program.Rows Row} (w : WellFormedRows m) (b : ℕ) (valid_mailbox : T (valid (mailbox b))) where
  -- Message g gets the row x, and mailbox b the messages l.
  module _ (g : ℕ) (x : MessageRow) (l : List ℕ) where
    abbrev changed_row : MailboxRow
    changed_row = with_messages l (m (mailbox b))

    abbrev rows : ℕ → MessageRow
    rows = changed ℕ_discrete g x (λ j. m (message j))

    other_names : (j : ℕ) → j ≢ g → named_mailbox (rows j) ≡ named_mailbox (m (message j))
    other_names j n = ap named_mailbox (update_other ℕ_discrete g x (λ j. m (message j)) j n)

    own_name : named_mailbox (rows g) ≡ named_mailbox x
    own_name = ap named_mailbox (update_same ℕ_discrete g x (λ j. m (message j)))

    other_lists : (j : ℕ) → j ≢ b → (update same_key (mailbox b) changed_row m (mailbox j)).messages ≡ (m (mailbox j)).messages
    other_lists j n = ap (λ (y : MailboxRow). y.messages) (update_other same_key (mailbox b) changed_row m (mailbox j) (λ e. n (cc)))

    own_list : (update same_key (mailbox b) changed_row m (mailbox b)).messages ≡ l
    own_list = ap (λ (y : MailboxRow). y.messages) (update_same same_key (mailbox b) changed_row m)

    message_moved : T (valid (message g)) → MailboxWellFormed changed_row → ((k : ℕ) → k ≢ b → named_mailbox (m (message g)) ≡ some k → ⊥)
        → StandsWhereNamed (λ j. (update same_key (mailbox b) changed_row m (mailbox j)).messages) (λ j. named_mailbox (rows j))
        → (T (messages_by_priority (m (mailbox b)).attribute) → InOrder 1 (m (mailbox b)).highest (map (λ j. (rows j).priority) l))
        → WellFormedRows (update same_key (message g) x (update same_key (mailbox b) changed_row m))
    unfolding same_key update
    message_moved valid_message fits only_here stands order =
        rw (fun_ext same) (put_mailbox w b changed_row rows valid_mailbox fits refl (w.waiting_in_order (waiters_of b)) in_range stands order priorities)
      where
        same : (k : Key) → update same_key (message g) x (update same_key (mailbox b) changed_row m) k ≡ update same_key (mailbox b) changed_row (with_message_rows rows m) k
        same (task t) = refl
        same (suspension t) = refl
        same (queue q) = refl
        same (mailbox j) = refl
        same (message j) = message_cases g m (λ i y. y ≡ rows i) x (sym (update_same ℕ_discrete g x (λ j. m (message j))))
            j (λ n. sym (update_other ℕ_discrete g x (λ j. m (message j)) j n))

        in_range : (j : ℕ) → T (not (valid (message j))) → rows j ≡ free
        in_range j = update_cases ℕ_discrete (λ i y. T (not (valid (message i))) → y ≡ free) g x (λ j. m (message j))
            (λ n. absurd (T_not (valid (message g)) n valid_message)) j (λ d. w.in_range (message j))

        priorities : (k j : ℕ) → k ≢ b → In j (m (mailbox k)).messages → (m (message j)).priority ≡ (rows j).priority
        priorities k j n i = ap (λ (y : MessageRow). y.priority) (sym (update_other ℕ_discrete g x (λ j. m (message j)) j (λ e. only_here k n (rw e at (w.queued.no_other j k i)))))

  -- A free message joins, at a place by its priority where the messages go by priority, and no task waits there.
  pub join_message : (g n p : ℕ) → T (m (mailbox b)).defined → T (empty (m (mailbox b)).waiters) → T (valid (message g)) → T (eqb (m (message g)).queued_in 0)
      → (T (messages_by_priority (m (mailbox b)).attribute) → (1 ≤ p) × (p ≤ (m (mailbox b)).highest) × (n ≡ passed p (map (λ j. (m (message j)).priority) (m (mailbox b)).messages)))
      → WellFormedRows (update same_key (message g) (record { queued_in = b; priority = p }) (update same_key (mailbox b) (with_messages (insert_at n g (m (mailbox b)).messages) (m (mailbox b))) m))
  join_message g n p defined no_waiter valid_message is_free place =
      message_moved g x l valid_message
      (record {
        undefined = λ d. absurd (T_not (m (mailbox b)).defined d defined);
        attribute_in_range = (w.mailboxes b).attribute_in_range;
        highest_in_range = (w.mailboxes b).highest_in_range;
        waiters = λ s. absurd (T_not (empty (m (mailbox b)).waiters) s no_waiter);
      })
      (λ k d e. none-ne-some k (sym nowhere ∙ e))
      (stands_join ℕ_discrete w.queued b (other_lists g x l) g (other_names g x l) nowhere (own_name g x l ∙ names_mailbox b p valid_mailbox) n (own_list g x l))
      (λ q. in_order_with (λ j. (rows g x l j).priority) g old n (rw (own, others) (place q).2) (rw own (place q).0) (rw own (place q).1) (rw others (w.queued_in_order b q)))
    where
      x : MessageRow
      x = record { queued_in = b; priority = p }

      old : List ℕ
      old = (m (mailbox b)).messages

      l : List ℕ
      l = insert_at n g old

      nowhere : named_mailbox (m (message g)) ≡ none
      nowhere = cond_yes (eqb (m (message g)).queued_in 0) none (some (m (message g)).queued_in) is_free

      own : (rows g x l g).priority ≡ p
      own = ap (λ (y : MessageRow). y.priority) (update_same ℕ_discrete g x (λ j. m (message j)))

      others : map (λ j. (rows g x l j).priority) old ≡ map (λ j. (m (message j)).priority) old
      others = map_same _ _ old (λ j i. ap (λ (y : MessageRow). y.priority)
          (update_other ℕ_discrete g x (λ j. m (message j)) j (λ e. none-ne-some b (sym nowhere ∙ rw e at (w.queued.no_other j b i)))))

  -- The head message leaves.
  pub take_head : T (not (empty (m (mailbox b)).messages))
      → WellFormedRows (update same_key (message (head_d (m (mailbox b)).messages 0)) free (update same_key (mailbox b) (with_messages (tail (m (mailbox b)).messages) (m (mailbox b))) m))
  take_head some_message =
      message_moved g free (tail old) (is_valid w (message g) (λ e. none-ne-some b (rw e at here)))
      (record {
        undefined = λ d. (((w.mailboxes b).undefined d).0, ap tail ((w.mailboxes b).undefined d).1);
        attribute_in_range = (w.mailboxes b).attribute_in_range;
        highest_in_range = (w.mailboxes b).highest_in_range;
        waiters = λ s. ap tail ((w.mailboxes b).waiters s);
      })
      (λ k d e. d (some-injective k b (sym e ∙ here)))
      stands
      (λ q. rw others (rw (without_head old some_message) at (in_order_without (λ j. (m (message j)).priority) g old (w.queued_in_order b q))))
    where
      old : List ℕ
      old = (m (mailbox b)).messages

      g : ℕ
      g = head_d old 0

      here : named_mailbox (m (message g)) ≡ some b
      here = w.queued.no_other g b (in_head old some_message)

      stands : StandsWhereNamed (λ j. (update same_key (mailbox b) (changed_row g free (tail old)) m (mailbox j)).messages) (λ j. named_mailbox (rows g free (tail old) j))
      stands = stands_leave ℕ_discrete w.queued b (other_lists g free (tail old)) g (other_names g free (tail old))
          here (own_name g free (tail old)) (own_list g free (tail old) ∙ sym (without_head old some_message))

      stays : (j : ℕ) → In j (tail old) → j ≢ g
      stays j i e = none-ne-some b (sym (own_name g free (tail old)) ∙ rw e at (stands.no_other j b (rw (own_list g free (tail old)) i)))

      others : map (λ j. (rows g free (tail old) j).priority) (tail old) ≡ map (λ j. (m (message j)).priority) (tail old)
      others = map_same _ _ (tail old) (λ j i. ap (λ (y : MessageRow). y.priority) (update_other ℕ_discrete g free (λ j. m (message j)) j (stays j i)))

  -- All messages are freed, and the mailbox gets another row, where no task waits before and after.
  pub replace_mailbox : (v : MailboxRow) → (m (mailbox b)).waiters ≡ [] → v.attribute ≤ 3 → (T (messages_by_priority v.attribute) → (1 ≤ v.highest) × (v.highest ≤ priority_limit))
      → v.waiters ≡ [] → v.messages ≡ []
      → WellFormedRows (update same_key (mailbox b) v (with_message_rows (freed (m (mailbox b)).messages m) m))
  unfolding empty
  replace_mailbox v no_waiter attribute highest waiters messages =
      put_mailbox w b v (freed old m) valid_mailbox
      (record { undefined = λ n. (waiters, messages); attribute_in_range = attribute; highest_in_range = highest; waiters = λ s. messages })
      (waiters ∙ sym no_waiter) (λ q. rw waiters no_key)
      (λ g n. cond_both (one_of g old) free (m (message g)) refl (λ d. w.in_range (message g) n))
      (stands_clear ℕ_discrete w.queued b
      (λ j n. ap (λ (y : MailboxRow). y.messages) (update_other same_key (mailbox b) v m (mailbox j) (λ e. n (cc))))
      (λ g i. ap named_mailbox (cond_member g old free (m (message g)) i)) (λ g f. ap named_mailbox (cond_no_member g old free (m (message g)) f))
      (ap (λ (y : MailboxRow). y.messages) (update_same same_key (mailbox b) v m) ∙ messages))
      (λ q. rw messages no_key)
      (λ j g n i. ap (λ (y : MessageRow). y.priority) (sym (cond_no_member g old free (m (message g))
      (λ h. n (some-injective j b (sym (w.queued.no_other g j i) ∙ w.queued.no_other g b h))))))
    where
      old : List ℕ
      old = (m (mailbox b)).messages

  -- Where it has no messages, none is freed.
  pub new_mailbox : (v : MailboxRow) → (m (mailbox b)).waiters ≡ [] → (m (mailbox b)).messages ≡ [] → v.attribute ≤ 3
      → (T (messages_by_priority v.attribute) → (1 ≤ v.highest) × (v.highest ≤ priority_limit)) → v.waiters ≡ [] → v.messages ≡ []
      → WellFormedRows (update same_key (mailbox b) v m)
  unfolding one_of
  new_mailbox v no_waiter no_message attribute highest waiters messages =
      subst (λ (n : Program.Rows Row). WellFormedRows (update same_key (mailbox b) v n)) (ap (λ l. with_message_rows (freed l m) m) no_message ∙ own_messages m)
      (replace_mailbox v no_waiter attribute highest waiters messages)
