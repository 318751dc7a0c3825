-- The calls on data queues: what is seen is the queue's own row, so each test of the code is the definition's, and each decision its case.
use Rattle.std.proofs.Common.{◌≡◌, ℕ, ◌%◌, ◌<◌, ◌≤◌, true, false, not, ◌||◌, T, eqb, sym, refl, ap, ◌∙◌, arith, le-ltb, lt-ltb, eq-eqb, ne_eqb}
use mir.Facts.{eqb_no}
use Rattle.lists.specs.Lists.{empty, one_of}
use Rattle.rows.specs.Program.{return, run}
use Rattle.rows.proofs.Run.{run_yes, run_no}
use Rattle.errors.specs.Seen.{ShowsQueue}
use Rattle.errors.proofs.Tests.{count_zero}
use Rattle.errors.specs.declared.QueueSeen.{QueueSeen}
use Rattle.errors.specs.declared.Seen.{Seen}
use Rattle.model.specs.Rows.{task, queue, same_key, QueueRow, Model, Effect, has_room}
use Rattle.model.specs.Codes.{finished, refused_at_step_7}
use Rattle.model.specs.Calls.{names_queue, creates}
use Rattle.model.specs.Errors.{exists, polls, would_wait}
use Rattle.model.specs.Waits.{end_of}
use Rattle.model.specs.DataQueues.{create, delete, send, receive, deliver, store, replace_oldest, wait_to_send, take_oldest, take_oldest_and_refill, take_from_sender, wait_to_receive}
use Rattle.model.specs.Step.{effect, effects}
use Rattle.model.specs.declared.Call.{Call}
use Rattle.model.specs.declared.Code.TheVariants.{Ok as E_OK}
use Rattle.model.specs.declared.End.{End}
use Rattle.model.specs.declared.End.TheVariants.{Never}
use Rattle.model.specs.declared.Wait.TheVariants.{Sending, Receiving}
use Rattle.model.proofs.Checked.{queue_attribute, queue_capacity, exists_not, exists_already, something_to_drop}
use Rattle.model.proofs.Step.{numbered}
use Rattle.model.proofs.Tests.{only_left, neither_left}
use Rattle.decide.specs.Decisions.{ran, after, Ready, Taken, QueueThere, CanWait, Decided}
use Rattle.decide.specs.declared.Decision.{Decision}
use Rattle.decide.specs.declared.Decision.TheVariants.{Say, CreateQueue, DeleteQueue, Deliver, Store, Replace, TakeOldest, TakeAndRefill, TakeFromSender, Join}
use Rattle.decide.proofs.Taken.{first_or, at_number, ending, view, passed, valid_queue, caller_is, the_queue_is, queue_shown, can_wait, decided}

-- ── What the numbers seen say of the row ──

module _ {x : QueueRow} {y : QueueSeen} (s : ShowsQueue x y) where
  someone_receives : (y.receiver ≡ 0 → ⊥) → T (not (empty x.receivers))
  someone_receives h = rw (← s.no_receiver, ne_eqb y.receiver 0 h) tt

  nobody_receives : y.receiver ≡ 0 → empty x.receivers ≡ true
  nobody_receives h = sym s.no_receiver ∙ eq-eqb y.receiver 0 h

  someone_sends : (y.sender ≡ 0 → ⊥) → T (not (empty x.senders))
  someone_sends h = rw (← s.no_sender, ne_eqb y.sender 0 h) tt

  nobody_sends : y.sender ≡ 0 → empty x.senders ≡ true
  nobody_sends h = sym s.no_sender ∙ eq-eqb y.sender 0 h

  room : y.count < y.capacity → has_room x ≡ true
  room h = rw (← s.count, ← s.capacity) (lt-ltb y.count y.capacity h)

  full : y.capacity ≤ y.count → has_room x ≡ false
  full h = rw (← s.count, ← s.capacity) (le-ltb y.count y.capacity h)

  some_words : (y.count ≡ 0 → ⊥) → T (not (empty x.words))
  some_words h = rw (← count_zero x.words, ← s.count, ne_eqb y.count 0 h) tt

  no_words : y.count ≡ 0 → empty x.words ≡ true
  no_words h = sym (count_zero x.words) ∙ (ap (λ n. eqb n 0) (sym s.count) ∙ eq-eqb y.count 0 h)

-- ── A queue that is there, and one that isn't yet ──

module _ (n : ℕ) (c : Call) {m : Model} {y : Seen} (a : Taken m (numbered n c) y) where
  -- The queue exists where the call doesn't create it.
  there : T (names_queue (numbered n c)) → T (not (creates (numbered n c)))
      → (T (exists (view n c a) (numbered n c)) → T ((view n c a).the_queue.defined || false)) → QueueThere m c.object
  there named not_created only = record {
    valid_queue = valid_queue n c a named;
    defined = rw (the_queue_is n c a named) at (only_left (view n c a).the_queue.defined (only (exists_already (passed n c a) not_created)));
  }

-- ── Sending ──

-- A send to a queue that is there: its effect runs as `send` does, with this as the third case.
record SendsAs (m : Model) (y : Seen) (otherwise : Effect) (c : Call) : Type 0 where
  at : QueueThere m c.object
  shown : ShowsQueue (m.rows (queue c.object)) y.queue
  decides : {d : Decision} (p : Effect) → run same_key (send c.object (m.rows (queue c.object)) c.value otherwise) m.rows ≡ run same_key p m.rows
      → after m d ≡ ran m p → Ready m d → Decided m c d

module _ (m : Model) (c : Call) where
  abbrev x : QueueRow
  x = m.rows (queue c.object)

  abbrev sending_until : End → Effect
  sending_until end = wait_to_send c.object x c.caller (m.rows (task c.caller)) c.value end

  sends_4 : {y : Seen} → Taken m (numbered 4 c) y → SendsAs m y (sending_until Never) (numbered 4 c)
  unfolding one_of exists effect effects
  sends_4 a = record {
    at = there 4 c a tt tt (λ t. t);
    shown = queue_shown 4 c a tt;
    decides = λ p e f r. decided 4 c a p tt (rw (the_queue_is 4 c a tt, caller_is 4 c a tt) e) f r;
  }

  sends_5 : {y : Seen} → Taken m (numbered 5 c) y → SendsAs m y refused_at_step_7 (numbered 5 c)
  unfolding one_of exists effect effects
  sends_5 a = record {
    at = there 5 c a tt tt (λ t. t);
    shown = queue_shown 5 c a tt;
    decides = λ p e f r. decided 5 c a p tt (rw (the_queue_is 5 c a tt) e) f r;
  }

  sends_6 : {y : Seen} → Taken m (numbered 6 c) y → SendsAs m y (sending_until (end_of m.environment.counter c.tmout)) (numbered 6 c)
  unfolding one_of exists effect effects
  sends_6 a = record {
    at = there 6 c a tt tt (λ t. t);
    shown = queue_shown 6 c a tt;
    decides = λ p e f r. decided 6 c a p tt (rw (the_queue_is 6 c a tt, caller_is 6 c a tt) e) f r;
  }

  sends_7 : {y : Seen} → Taken m (numbered 7 c) y → SendsAs m y (replace_oldest c.object x c.value) (numbered 7 c)
  unfolding one_of exists effect effects
  sends_7 a = record {
    at = there 7 c a tt tt (λ t. t);
    shown = queue_shown 7 c a tt;
    decides = λ p e f r. decided 7 c a p tt (rw (the_queue_is 7 c a tt) e) f r;
  }

module _ {m : Model} {y : Seen} {otherwise : Effect} (c : Call) (s : SendsAs m y otherwise c) where
  delivers : (y.queue.receiver ≡ 0 → ⊥) → Decided m c (Deliver c.object y.queue.receiver c.value)
  unfolding send
  delivers h =
      let some = someone_receives s.shown h in
      s.decides (deliver c.object (m.rows (queue c.object)) c.value) (run_yes same_key _ _ _ m.rows some) refl (s.at, some, s.shown.receiver)

  stores : y.queue.receiver ≡ 0 → y.queue.count < y.queue.capacity → Decided m c (Store c.object c.value)
  unfolding send
  stores none h =
      s.decides (store c.object (m.rows (queue c.object)) c.value)
      (run_no same_key _ _ _ m.rows (rw (nobody_receives s.shown none) tt) ∙ run_yes same_key _ _ _ m.rows (rw (room s.shown h) tt)) refl (s.at, rw (room s.shown h) tt)

  third : y.queue.receiver ≡ 0 → y.queue.capacity ≤ y.queue.count
      → run same_key (send c.object (m.rows (queue c.object)) c.value otherwise) m.rows ≡ run same_key otherwise m.rows
  unfolding send
  third none h = run_no same_key _ _ _ m.rows (rw (nobody_receives s.shown none) tt) ∙ run_no same_key _ _ _ m.rows (rw (full s.shown h) tt)

module _ {m : Model} {y : Seen} (c : Call) (a : Taken m c y) where
  module _ (low : 4 ≤ c.number) (high : c.number ≤ 7) where
    some_send : (otherwise : Effect) × SendsAs m y otherwise c
    some_send =
        first_or low (λ e. (_, at_number (SendsAs m y (sending_until m c Never)) 4 a e (sends_4 m c)))
        (λ l. first_or l (λ e. (_, at_number (SendsAs m y refused_at_step_7) 5 a e (sends_5 m c)))
        (λ k. first_or k (λ e. (_, at_number (SendsAs m y (sending_until m c (end_of m.environment.counter c.tmout))) 6 a e (sends_6 m c)))
        (λ j. (_, at_number (SendsAs m y (replace_oldest c.object (m.rows (queue c.object)) c.value)) 7 a (omega arith) (sends_7 m c)))))

    pub delivered : (y.queue.receiver ≡ 0 → ⊥) → Decided m c (Deliver c.object y.queue.receiver c.value)
    delivered h = delivers c some_send.1 h

    pub stored : y.queue.receiver ≡ 0 → y.queue.count < y.queue.capacity → Decided m c (Store c.object c.value)
    stored none h = stores c some_send.1 none h

  module _ (none : y.queue.receiver ≡ 0) (no_room : y.queue.capacity ≤ y.queue.count) where
    -- 7: step 6d has refused it where there is no word to drop.
    pub replaced : c.number ≡ 7 → Decided m c (Replace c.object c.value)
    unfolding one_of
    replaced e = at_number (λ d. Decided m d (Replace c.object c.value)) 7 a e (λ b.
        let s = sends_7 m c b in
        let kept = eqb_no {a = (view 7 c b).the_queue.capacity} {b = 0} (something_to_drop (passed 7 c b) tt (rw (nobody_receives b.seen.shows.queue none) tt)) in
        let same = b.seen.shows.queue.capacity in
        s.decides (replace_oldest c.object (m.rows (queue c.object)) c.value) (third (numbered 7 c) s none no_room) refl
        (s.at, some_words s.shown (λ z. kept (omega (arith, z, same)))))

    joins : (n : ℕ) (end : End) → (Taken m (numbered n c) y → SendsAs m y (sending_until m c end) (numbered n c)) → (Taken m (numbered n c) y → CanWait m c.caller)
        → c.number ≡ n → Decided m c (Join c.caller (eqb y.queue.attribute 1) (Sending c.object end c.value))
    joins n end sends waits e = at_number (λ d. Decided m d (Join c.caller (eqb y.queue.attribute 1) (Sending c.object end c.value))) n a e (λ b.
        let s = sends b in
        s.decides (sending_until m c end) (third (numbered n c) s none no_room) refl
        (waits b, (s.at, ap (λ k. eqb k 1) s.shown.attribute)))

    -- 5: step 7 has refused it.
    no_poll : c.number ≡ 5 → ⊥
    unfolding one_of polls would_wait
    no_poll e = at_number (λ d. ⊥) 5 a e (λ b. let shown = b.seen.shows.queue in rw (nobody_receives shown none, full shown no_room) at (passed 5 c b).step_7)

    pub sender_joins : 4 ≤ c.number → c.number ≤ 6 → (end : End) → end ≡ ending y c
        → Decided m c (Join c.caller (eqb y.queue.attribute 1) (Sending c.object end c.value))
    unfolding one_of
    sender_joins low high end ends =
        first_or low (λ e. joins 4 end (rw (never e) (sends_4 m c)) (λ b. can_wait 4 c b tt) e)
        (λ l. first_or l (λ e. absurd (no_poll e))
        (λ k. let six : c.number ≡ 6 = omega arith in joins 6 end (rw (in_time six) (sends_6 m c)) (λ b. can_wait 6 c b tt) six))
      where
        never : c.number ≡ 4 → end ≡ Never
        never e = ends ∙ rw e refl

        in_time : c.number ≡ 6 → end ≡ end_of m.environment.counter c.tmout
        in_time e = ends ∙ rw (e, a.seen.counter) refl

-- ── Receiving ──

record ReceivesAs (m : Model) (y : Seen) (otherwise : Effect) (c : Call) : Type 0 where
  at : QueueThere m c.object
  shown : ShowsQueue (m.rows (queue c.object)) y.queue
  decides : {d : Decision} (p : Effect) → run same_key (receive c.object (m.rows (queue c.object)) otherwise) m.rows ≡ run same_key p m.rows
      → after m d ≡ ran m p → Ready m d → Decided m c d

module _ (m : Model) (c : Call) where
  abbrev receiving_until : End → Effect
  receiving_until end = wait_to_receive c.object (x m c) c.caller (m.rows (task c.caller)) end

  receives_8 : {y : Seen} → Taken m (numbered 8 c) y → ReceivesAs m y (receiving_until Never) (numbered 8 c)
  unfolding one_of exists effect effects
  receives_8 a = record {
    at = there 8 c a tt tt (λ t. t);
    shown = queue_shown 8 c a tt;
    decides = λ p e f r. decided 8 c a p tt (rw (the_queue_is 8 c a tt, caller_is 8 c a tt) e) f r;
  }

  receives_9 : {y : Seen} → Taken m (numbered 9 c) y → ReceivesAs m y refused_at_step_7 (numbered 9 c)
  unfolding one_of exists effect effects
  receives_9 a = record {
    at = there 9 c a tt tt (λ t. t);
    shown = queue_shown 9 c a tt;
    decides = λ p e f r. decided 9 c a p tt (rw (the_queue_is 9 c a tt) e) f r;
  }

  receives_10 : {y : Seen} → Taken m (numbered 10 c) y → ReceivesAs m y (receiving_until (end_of m.environment.counter c.tmout)) (numbered 10 c)
  unfolding one_of exists effect effects
  receives_10 a = record {
    at = there 10 c a tt tt (λ t. t);
    shown = queue_shown 10 c a tt;
    decides = λ p e f r. decided 10 c a p tt (rw (the_queue_is 10 c a tt, caller_is 10 c a tt) e) f r;
  }

module _ {m : Model} {y : Seen} {otherwise : Effect} (c : Call) (s : ReceivesAs m y otherwise c) where
  refills : (y.queue.count ≡ 0 → ⊥) → (y.queue.sender ≡ 0 → ⊥) → Decided m c (TakeAndRefill c.object y.queue.sender)
  unfolding receive
  refills words h =
      let stored = some_words s.shown words in
      let some = someone_sends s.shown h in
      s.decides (take_oldest_and_refill c.object (m.rows (queue c.object)))
      (run_yes same_key _ _ _ m.rows stored ∙ run_no same_key _ _ _ m.rows some) refl (s.at, stored, some, s.shown.sender)

  takes : (y.queue.count ≡ 0 → ⊥) → y.queue.sender ≡ 0 → Decided m c (TakeOldest c.object)
  unfolding receive
  takes words h =
      let stored = some_words s.shown words in
      s.decides (take_oldest c.object (m.rows (queue c.object)))
      (run_yes same_key _ _ _ m.rows stored ∙ run_yes same_key _ _ _ m.rows (rw (nobody_sends s.shown h) tt)) refl (s.at, stored)

  hands_over : y.queue.count ≡ 0 → (y.queue.sender ≡ 0 → ⊥) → Decided m c (TakeFromSender c.object y.queue.sender)
  unfolding receive
  hands_over words h =
      let some = someone_sends s.shown h in
      s.decides (take_from_sender c.object (m.rows (queue c.object)))
      (run_no same_key _ _ _ m.rows (rw (no_words s.shown words) tt) ∙ run_yes same_key _ _ _ m.rows some) refl (s.at, some, s.shown.sender)

  nothing_left : y.queue.count ≡ 0 → y.queue.sender ≡ 0
      → run same_key (receive c.object (m.rows (queue c.object)) otherwise) m.rows ≡ run same_key otherwise m.rows
  unfolding receive
  nothing_left words h =
      run_no same_key _ _ _ m.rows (rw (no_words s.shown words) tt) ∙ run_no same_key _ _ _ m.rows (rw (nobody_sends s.shown h) tt)

module _ {m : Model} {y : Seen} (c : Call) (a : Taken m c y) where
  module _ (low : 8 ≤ c.number) (high : c.number ≤ 10) where
    some_receive : (otherwise : Effect) × ReceivesAs m y otherwise c
    some_receive =
        first_or low (λ e. (_, at_number (ReceivesAs m y (receiving_until m c Never)) 8 a e (receives_8 m c)))
        (λ l. first_or l (λ e. (_, at_number (ReceivesAs m y refused_at_step_7) 9 a e (receives_9 m c)))
        (λ k. (_, at_number (ReceivesAs m y (receiving_until m c (end_of m.environment.counter c.tmout))) 10 a (omega arith) (receives_10 m c))))

    pub refilled : (y.queue.count ≡ 0 → ⊥) → (y.queue.sender ≡ 0 → ⊥) → Decided m c (TakeAndRefill c.object y.queue.sender)
    refilled words h = refills c some_receive.1 words h

    pub taken : (y.queue.count ≡ 0 → ⊥) → y.queue.sender ≡ 0 → Decided m c (TakeOldest c.object)
    taken words h = takes c some_receive.1 words h

    pub handed_over : y.queue.count ≡ 0 → (y.queue.sender ≡ 0 → ⊥) → Decided m c (TakeFromSender c.object y.queue.sender)
    handed_over words h = hands_over c some_receive.1 words h

  module _ (words : y.queue.count ≡ 0) (none : y.queue.sender ≡ 0) where
    waits_to_receive : (n : ℕ) (end : End) → (Taken m (numbered n c) y → ReceivesAs m y (receiving_until m c end) (numbered n c))
        → (Taken m (numbered n c) y → CanWait m c.caller) → c.number ≡ n → Decided m c (Join c.caller false (Receiving c.object end))
    waits_to_receive n end receives waits e = at_number (λ d. Decided m d (Join c.caller false (Receiving c.object end))) n a e (λ b.
        let s = receives b in
        s.decides (receiving_until m c end) (nothing_left (numbered n c) s words none) refl (waits b, (s.at, refl)))

    -- 9: step 7 has refused it.
    no_receiving_poll : c.number ≡ 9 → ⊥
    unfolding one_of polls would_wait
    no_receiving_poll e = at_number (λ d. ⊥) 9 a e (λ b. let shown = b.seen.shows.queue in rw (no_words shown words, nobody_sends shown none) at (passed 9 c b).step_7)

    pub receiver_joins : 8 ≤ c.number → c.number ≤ 10 → (end : End) → end ≡ ending y c → Decided m c (Join c.caller false (Receiving c.object end))
    unfolding one_of
    receiver_joins low high end ends =
        first_or low (λ e. waits_to_receive 8 end (rw (never e) (receives_8 m c)) (λ b. can_wait 8 c b tt) e)
        (λ l. first_or l (λ e. absurd (no_receiving_poll e))
        (λ k. let ten : c.number ≡ 10 = omega arith in waits_to_receive 10 end (rw (in_time ten) (receives_10 m c)) (λ b. can_wait 10 c b tt) ten))
      where
        never : c.number ≡ 8 → end ≡ Never
        never e = ends ∙ rw e refl

        in_time : c.number ≡ 10 → end ≡ end_of m.environment.counter c.tmout
        in_time e = ends ∙ rw (e, a.seen.counter) refl

-- ── Creating, deleting, reading ──

module _ {m : Model} {y : Seen} (c : Call) (a : Taken m c y) where
  pub created : c.number ≡ 2 → (attribute capacity : ℕ) → attribute ≡ c.attribute % 256 → capacity ≡ c.value % 256 → Decided m c (CreateQueue c.object attribute capacity)
  unfolding one_of exists effect effects
  created e attribute capacity f g = at_number (λ d. Decided m d (CreateQueue c.object attribute capacity)) 2 a e (λ b.
      let low = queue_attribute (passed 2 c b) tt in
      let few = queue_capacity (passed 2 c b) tt in
      let same_attribute : attribute ≡ c.attribute = omega (arith, f, low) in
      let same_capacity : capacity ≡ c.value = omega (arith, g, few) in
      decided 2 c b (create c.object c.attribute c.value) tt refl (rw (same_attribute, same_capacity) refl) (record {
        valid_queue = valid_queue 2 c b tt;
        undefined = rw (the_queue_is 2 c b tt) at (neither_left (view 2 c b).the_queue.defined false (exists_not (passed 2 c b) tt));
        capacity_in_range = omega (arith, same_capacity, few);
      }))

  pub deleted : c.number ≡ 3 → Decided m c (DeleteQueue c.object)
  unfolding one_of exists effect effects
  deleted e = at_number (λ d. Decided m d (DeleteQueue c.object)) 3 a e (λ b.
      decided 3 c b (delete c.object (x m c)) tt (rw (the_queue_is 3 c b tt) refl) refl (there 3 c b tt tt (λ t. t)))

  pub referred : c.number ≡ 11 → Decided m c (Say E_OK y.queue.sender y.queue.receiver y.queue.count)
  unfolding one_of exists effect effects
  referred e = at_number (λ d. Decided m d (Say E_OK y.queue.sender y.queue.receiver y.queue.count)) 11 a e (λ b.
      let shown = b.seen.shows.queue in
      decided 11 c b (return (finished E_OK y.queue.sender y.queue.receiver y.queue.count)) tt (rw (shown.sender, shown.receiver, shown.count) refl) refl tt)
