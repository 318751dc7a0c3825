-- The calls on mailboxes: what is seen is the mailbox's own row, so each test of the code is the definition's, and each decision its case.
use Rattle.std.proofs.Common.{◌≡◌, ℕ, ◌%◌, ◌≤◌, Bool, true, false, cond, not, T, sym, refl, ap, ◌∙◌, arith, eq-eqb, ne_eqb}
use Rattle.lists.specs.Lists.{empty, one_of}
use Rattle.rows.specs.Program.{return, run}
use Rattle.rows.proofs.Run.{run_yes, run_no}
use Rattle.errors.specs.Seen.{ShowsMailbox}
use Rattle.errors.specs.declared.MailboxSeen.{MailboxSeen}
use Rattle.errors.specs.declared.Seen.{Seen}
use Rattle.model.specs.Rows.{task, mailbox, same_key, MailboxRow, Model, Effect, messages_by_priority, waiters_by_priority}
use Rattle.model.specs.Codes.{finished, refused_at_step_7}
use Rattle.model.specs.Calls.{names_mailbox, creates}
use Rattle.model.specs.Errors.{exists, polls, would_wait}
use Rattle.model.specs.Waits.{end_of}
use Rattle.model.specs.Mailboxes.{create, delete, deliver_message, queue_message, take_message, wait_for_message, send_message, receive_message}
use Rattle.model.specs.Step.{effect, effects}
use Rattle.model.specs.declared.Call.{Call}
use Rattle.model.specs.declared.Code.TheVariants.{Ok as E_OK}
use Rattle.model.specs.declared.End.{End}
use Rattle.model.specs.declared.End.TheVariants.{Never}
use Rattle.model.specs.declared.Wait.TheVariants.{AtMailbox}
use Rattle.model.proofs.Choices.{cond_no}
use Rattle.model.proofs.Checked.{mailbox_attribute, mailbox_highest, exists_not, exists_already, message_free, message_priority}
use Rattle.model.proofs.Step.{numbered}
use Rattle.model.proofs.Tests.{from_within}
use Rattle.decide.specs.Decisions.{ran, after, Ready, Taken, MailboxThere, CanWait, Decided}
use Rattle.decide.specs.declared.Decision.{Decision}
use Rattle.decide.specs.declared.Decision.TheVariants.{Say, CreateMailbox, DeleteMailbox, DeliverMessage, QueueMessage, TakeMessage, Join}
use Rattle.decide.proofs.Taken.{first_or, at_number, ending, view, passed, valid_mailbox, valid_message, caller_is, the_mailbox_is, the_message_is, mailbox_shown, can_wait, decided}

-- ── What the numbers seen say of the row ──

module _ {x : MailboxRow} {y : MailboxSeen} (s : ShowsMailbox x y) where
  someone_waits : (y.waiter ≡ 0 → ⊥) → T (not (empty x.waiters))
  someone_waits h = rw (← s.no_waiter, ne_eqb y.waiter 0 h) tt

  nobody_waits : y.waiter ≡ 0 → empty x.waiters ≡ true
  nobody_waits h = sym s.no_waiter ∙ eq-eqb y.waiter 0 h

  some_message : (y.message ≡ 0 → ⊥) → T (not (empty x.messages))
  some_message h = rw (← s.no_message, ne_eqb y.message 0 h) tt

  no_message : y.message ≡ 0 → empty x.messages ≡ true
  no_message h = sym s.no_message ∙ eq-eqb y.message 0 h

-- ── A mailbox that is there ──

module _ (n : ℕ) (c : Call) {m : Model} {y : Seen} (a : Taken m (numbered n c) y) where
  -- The mailbox exists where the call doesn't create it.
  there : T (names_mailbox (numbered n c)) → T (not (creates (numbered n c)))
      → (T (exists (view n c a) (numbered n c)) → T (view n c a).the_mailbox.defined) → MailboxThere m c.object
  there named not_created only = record {
    valid_mailbox = valid_mailbox n c a named;
    defined = rw (the_mailbox_is n c a named) at (only (exists_already (passed n c a) not_created));
  }

-- ── Receiving ──

-- A receive from a mailbox that is there: its effect runs as `receive_message` does, with this as the second case.
record ReceivesAs (m : Model) (y : Seen) (otherwise : Effect) (c : Call) : Type 0 where
  at : MailboxThere m c.object
  shown : ShowsMailbox (m.rows (mailbox c.object)) y.mailbox
  decides : {d : Decision} (p : Effect) → run same_key (receive_message c.object (m.rows (mailbox c.object)) otherwise) m.rows ≡ run same_key p m.rows
      → after m d ≡ ran m p → Ready m d → Decided m c d

module _ (m : Model) (c : Call) where
  abbrev x : MailboxRow
  x = m.rows (mailbox c.object)

  abbrev waiting_until : End → Effect
  waiting_until end = wait_for_message c.object x c.caller (m.rows (task c.caller)) end

  receives_15 : {y : Seen} → Taken m (numbered 15 c) y → ReceivesAs m y (waiting_until Never) (numbered 15 c)
  unfolding one_of exists effect effects
  receives_15 a = record {
    at = there 15 c a tt tt (λ t. t);
    shown = mailbox_shown 15 c a tt;
    decides = λ p e f r. decided 15 c a p tt (rw (the_mailbox_is 15 c a tt, caller_is 15 c a tt) e) f r;
  }

  receives_16 : {y : Seen} → Taken m (numbered 16 c) y → ReceivesAs m y refused_at_step_7 (numbered 16 c)
  unfolding one_of exists effect effects
  receives_16 a = record {
    at = there 16 c a tt tt (λ t. t);
    shown = mailbox_shown 16 c a tt;
    decides = λ p e f r. decided 16 c a p tt (rw (the_mailbox_is 16 c a tt) e) f r;
  }

  receives_17 : {y : Seen} → Taken m (numbered 17 c) y → ReceivesAs m y (waiting_until (end_of m.environment.counter c.tmout)) (numbered 17 c)
  unfolding one_of exists effect effects
  receives_17 a = record {
    at = there 17 c a tt tt (λ t. t);
    shown = mailbox_shown 17 c a tt;
    decides = λ p e f r. decided 17 c a p tt (rw (the_mailbox_is 17 c a tt, caller_is 17 c a tt) e) f r;
  }

module _ {m : Model} {y : Seen} {otherwise : Effect} (c : Call) (s : ReceivesAs m y otherwise c) where
  takes : (y.mailbox.message ≡ 0 → ⊥) → Decided m c (TakeMessage c.object)
  unfolding receive_message
  takes h =
      let some = some_message s.shown h in
      s.decides (take_message c.object (m.rows (mailbox c.object))) (run_yes same_key _ _ _ m.rows some) refl (s.at, some)

  nothing_queued : y.mailbox.message ≡ 0
      → run same_key (receive_message c.object (m.rows (mailbox c.object)) otherwise) m.rows ≡ run same_key otherwise m.rows
  unfolding receive_message
  nothing_queued h = run_no same_key _ _ _ m.rows (rw (no_message s.shown h) tt)

module _ {m : Model} {y : Seen} (c : Call) (a : Taken m c y) where
  module _ (low : 15 ≤ c.number) (high : c.number ≤ 17) where
    some_receive : (otherwise : Effect) × ReceivesAs m y otherwise c
    some_receive =
        first_or low (λ e. (_, at_number (ReceivesAs m y (waiting_until m c Never)) 15 a e (receives_15 m c)))
        (λ l. first_or l (λ e. (_, at_number (ReceivesAs m y refused_at_step_7) 16 a e (receives_16 m c)))
        (λ k. (_, at_number (ReceivesAs m y (waiting_until m c (end_of m.environment.counter c.tmout))) 17 a (omega arith) (receives_17 m c))))

    pub taken : (y.mailbox.message ≡ 0 → ⊥) → Decided m c (TakeMessage c.object)
    taken h = takes c some_receive.1 h

  module _ (none : y.mailbox.message ≡ 0) where
    abbrev joining : Bool → End → Decision
    joining ranked end = Join c.caller ranked (AtMailbox c.object end)

    waits_for_message : (n : ℕ) {ranked : Bool} (end : End) → (Taken m (numbered n c) y → ReceivesAs m y (waiting_until m c end) (numbered n c))
        → (Taken m (numbered n c) y → CanWait m c.caller) → c.number ≡ n → ranked ≡ waiters_by_priority y.mailbox.attribute → Decided m c (joining ranked end)
    waits_for_message n {ranked} end receives waits e f = at_number (λ d. Decided m d (joining ranked end)) n a e (λ b.
        let s = receives b in
        s.decides (waiting_until m c end) (nothing_queued (numbered n c) s none) refl (waits b, (s.at, f ∙ ap (λ k. waiters_by_priority k) s.shown.attribute)))

    -- 16: step 7 has refused it.
    no_poll : c.number ≡ 16 → ⊥
    unfolding one_of polls would_wait
    no_poll e = at_number (λ d. ⊥) 16 a e (λ b. rw (no_message b.seen.shows.mailbox none) at (passed 16 c b).step_7)

    pub waiter_joins : 15 ≤ c.number → c.number ≤ 17 → {ranked : Bool} (end : End) → end ≡ ending y c → ranked ≡ waiters_by_priority y.mailbox.attribute
        → Decided m c (joining ranked end)
    unfolding one_of
    waiter_joins low high end ends f =
        first_or low (λ e. waits_for_message 15 end (rw (never e) (receives_15 m c)) (λ b. can_wait 15 c b tt) e f)
        (λ l. first_or l (λ e. absurd (no_poll e))
        (λ k. let last : c.number ≡ 17 = omega arith in waits_for_message 17 end (rw (in_time last) (receives_17 m c)) (λ b. can_wait 17 c b tt) last f))
      where
        never : c.number ≡ 15 → end ≡ Never
        never e = ends ∙ rw e refl

        in_time : c.number ≡ 17 → end ≡ end_of m.environment.counter c.tmout
        in_time e = ends ∙ rw (e, a.seen.counter) refl

-- ── Creating, deleting, sending, reading ──

module _ {m : Model} {y : Seen} (c : Call) (a : Taken m c y) where
  -- The highest message priority is small where it is kept.
  kept_small : (ranked : Bool) (value : ℕ) → (T ranked → value ≤ 16) → cond ranked (value % 256) 0 ≡ cond ranked value 0
  kept_small true value h = let k = h tt in omega (arith, k)
  kept_small false value h = refl

  pub created : c.number ≡ 12 → (attribute highest : ℕ) → attribute ≡ c.attribute % 256 → highest ≡ cond (messages_by_priority c.attribute) (c.value % 256) 0
      → Decided m c (CreateMailbox c.object attribute highest)
  unfolding one_of exists effect effects
  created e attribute highest f g = at_number (λ d. Decided m d (CreateMailbox c.object attribute highest)) 12 a e (λ b.
      let low = mailbox_attribute (passed 12 c b) tt in
      let same_attribute : attribute ≡ c.attribute = omega (arith, f, low) in
      let same_highest = g ∙ kept_small (messages_by_priority c.attribute) c.value (λ t. (mailbox_highest (passed 12 c b) tt t).1) in
      decided 12 c b (create c.object c.attribute (cond (messages_by_priority c.attribute) c.value 0)) tt refl (rw (same_attribute, same_highest) refl) (record {
        valid_mailbox = valid_mailbox 12 c b tt;
        undefined = rw (the_mailbox_is 12 c b tt) at (exists_not (passed 12 c b) tt);
        highest_kept = λ n. same_highest ∙ cond_no (messages_by_priority c.attribute) c.value 0 (rw same_attribute at n);
      }))

  pub deleted : c.number ≡ 13 → Decided m c (DeleteMailbox c.object)
  unfolding one_of exists effect effects
  deleted e = at_number (λ d. Decided m d (DeleteMailbox c.object)) 13 a e (λ b.
      decided 13 c b (delete c.object (x m c)) tt (rw (the_mailbox_is 13 c b tt) refl) refl (there 13 c b tt tt (λ t. t)))

  pub delivered : c.number ≡ 14 → (y.mailbox.waiter ≡ 0 → ⊥) → Decided m c (DeliverMessage c.object y.mailbox.waiter c.value)
  unfolding one_of exists effect effects send_message
  delivered e h = at_number (λ d. Decided m d (DeliverMessage c.object y.mailbox.waiter c.value)) 14 a e (λ b.
      let shown = mailbox_shown 14 c b tt in
      let some = someone_waits shown h in
      decided 14 c b (deliver_message c.object (x m c) c.value) tt (rw (the_mailbox_is 14 c b tt) (run_yes same_key _ _ _ m.rows some)) refl
      (there 14 c b tt tt (λ t. t), some, shown.waiter))

  pub queued : c.number ≡ 14 → y.mailbox.waiter ≡ 0 → (g : ℕ) → g ≡ c.value % 256 → Decided m c (QueueMessage c.object g c.attribute)
  unfolding one_of exists effect effects send_message
  queued e h g f = at_number (λ d. Decided m d (QueueMessage c.object g c.attribute)) 14 a e (λ b.
      let shown = mailbox_shown 14 c b tt in
      let ok = valid_message 14 c b tt in
      let range = from_within 1 64 c.value ok in
      let same : g ≡ c.value = omega (arith, f, range) in
      decided 14 c b (queue_message c.object (x m c) c.value c.attribute) tt (rw (the_mailbox_is 14 c b tt) (run_no same_key _ _ _ m.rows (rw (nobody_waits shown h) tt)))
      (rw same refl) (rw same (record {
        there = there 14 c b tt tt (λ t. t);
        valid_message = ok;
        is_free = rw (the_message_is 14 c b tt) at (message_free (passed 14 c b) tt);
        in_range = λ t. rw (the_mailbox_is 14 c b tt) at (message_priority (passed 14 c b) tt (rw (the_mailbox_is 14 c b tt) t)).1;
      })))

  pub referred : c.number ≡ 18 → Decided m c (Say E_OK y.mailbox.waiter y.mailbox.message 0)
  unfolding one_of exists effect effects
  referred e = at_number (λ d. Decided m d (Say E_OK y.mailbox.waiter y.mailbox.message 0)) 18 a e (λ b.
      let shown = b.seen.shows.mailbox in
      decided 18 c b (return (finished E_OK y.mailbox.waiter y.mailbox.message 0)) tt (rw (shown.waiter, shown.message) refl) refl tt)
