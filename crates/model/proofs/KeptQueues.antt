-- The calls on data queues keep the rows well-formed: by the moves, branch by branch as the programs go.
use mathlib.Core.Path.{◌≡◌, refl, sym, ◌∙◌, ap, subst}
use mathlib.Core.Bool.{true, false, not, true≢false}
use mathlib.Core.List.{List, [], ◌∷◌, ◌++◌, map, tail, head_d}
use Prim.Native.Nat.{ℕ, ◌≤◌}
use native.Mathlib.Omega.{arith}
use lib.Dec.{T, T_not, not_T, eqb}
use lib.ListN.{length, length-append}
use mir.Facts.{T_not-not, ltb_yes, ltb_no, eqb_no}
use Rattle.lists.specs.Lists.{empty, insert_at, no_key}
use Rattle.lists.proofs.Changes.{insert_at_end}
use Rattle.lists.proofs.Stands.{empty_nil}
use Rattle.rows.specs.Program as Program
use Rattle.rows.specs.Program.{update}
use Rattle.rows.proofs.Update.{update_same}
use Rattle.model.specs.Sizes.{capacity_limit}
use Rattle.model.specs.Rows.{task, queue, same_key, valid, Row, QueueRow, Environment, Effect, senders_by_priority, has_room, no_queue, with_words, with_senders, with_receivers}
use Rattle.model.specs.Codes.{E_OK, E_DLT}
use Rattle.model.specs.Calls.{Call, View, capacity_of}
use Rattle.model.specs.Waits.{End, NoWait, Sending, Receiving, held_word, ended, senders_of, receivers_of}
use Rattle.model.specs.WaitQueues.{place, release, set_standing}
use Rattle.model.specs.DataQueues.{deliver, store, replace_oldest, wait_to_send, send, take_oldest, take_oldest_and_refill, take_from_sender, wait_to_receive, receive, cre_dtq, del_dtq}
use Rattle.model.specs.WellFormed.{QueueWellFormed, WellFormedRows}
use Rattle.model.proofs.Choices.{cond_yes}
use Rattle.model.proofs.Standing.{put_twice}
use Rattle.model.proofs.WaitMoves.{defined_queue, leave_head, join}
use Rattle.model.proofs.RowMoves.{put_queue}
use Rattle.model.proofs.After.{After, after_return, after_get, after_put, after_if, after_get_each, Kept}
use Rattle.model.proofs.EndWaits.{after_end_waits}

-- The tail of the words, with and without a word behind it.
length_tail : (l : List ℕ) → length (tail l) ≤ length l
length_tail [] = omega arith
length_tail (y ∷ l) = omega arith

length_replaced : (l : List ℕ) (word : ℕ) → T (not (empty l)) → length (tail l ++ word ∷ []) ≡ length l
unfolding empty
length_replaced [] word t = absurd t
length_replaced (y ∷ l) word t = length-append l (word ∷ []) ∙ omega arith

-- What is known of a caller that may wait.
pub record CanWait (m : Program.Rows Row) (me : ℕ) : Type 0 where
  pub defined : T (m (task me)).defined
  pub able : (m (task me)).wait ≡ NoWait

module _ {m : Program.Rows Row} (w : WellFormedRows m) (q : ℕ) (defined : T (m (queue q)).defined) where
  abbrev x : QueueRow
  x = m (queue q)

  -- The queue, which is defined, with other words and other tasks waiting.
  refit : (words senders receivers : List ℕ) → length words ≤ x.capacity → (T (not (empty senders)) → (length words ≡ x.capacity) × (receivers ≡ []))
      → (T (not (empty receivers)) → (words ≡ []) × (senders ≡ []))
      → QueueWellFormed (with_receivers receivers (with_senders senders (with_words words x)))
  refit words senders receivers count sending receiving = record {
    undefined = λ d. absurd (T_not x.defined d defined);
    attribute_in_range = (w.queues q).attribute_in_range;
    capacity_in_range = (w.queues q).capacity_in_range;
    count = count;
    senders = sending;
    receivers = receiving;
  }

  put_words : (words : List ℕ) → length words ≤ x.capacity → (T (not (empty x.senders)) → length words ≡ x.capacity) → (T (not (empty x.receivers)) → words ≡ [])
      → WellFormedRows (update same_key (queue q) (with_words words x) m)
  put_words words count full none_stored = put_queue w q (with_words words x) (defined_queue w q defined)
      (refit words x.senders x.receivers count (λ s. (full s, ((w.queues q).senders s).1)) (λ r. (none_stored r, ((w.queues q).receivers r).1)))
      refl refl (w.waiting_in_order (senders_of q))

  -- ── Send ──

  kept_deliver : (word : ℕ) → T (not (empty x.receivers)) → After Kept (deliver q x word) m
  unfolding deliver release set_standing same_key update
  kept_deliver word some_receiver = after_put (after_get (after_put (after_return (leave_head w (receivers_of q) E_OK word tt some_receiver))))

  kept_store : (word : ℕ) → T (has_room x) → T (empty x.receivers) → After Kept (store q x word) m
  unfolding store
  kept_store word room no_receiver =
      let below = ltb_yes {a = length x.words} {b = x.capacity} room in
      let longer = length-append x.words (word ∷ []) in
      after_put (after_return (put_words _ (omega arith) (λ s. let full = ((w.queues q).senders s).0 in absurd (omega arith)) (λ r. absurd (T_not (empty x.receivers) r no_receiver))))

  pub kept_send : (word : ℕ) (otherwise : Effect) → (T (empty x.receivers) → T (not (has_room x)) → After Kept otherwise m)
      → After Kept (send q x word otherwise) m
  unfolding send
  kept_send word otherwise h = after_if (kept_deliver word) (λ none. after_if (λ room. kept_store word room (T_not-not (empty x.receivers) none)) (h (T_not-not (empty x.receivers) none)))

  -- At a full queue with no receiver.
  module _ (no_receiver : T (empty x.receivers)) (no_room : T (not (has_room x))) where
    full : length x.words ≡ x.capacity
    full = let above = ltb_no {a = length x.words} {b = x.capacity} no_room in let below = (w.queues q).count in omega arith

    pub kept_replace_oldest : (word : ℕ) → T (not (eqb x.capacity 0)) → After Kept (replace_oldest q x word) m
    unfolding replace_oldest
    kept_replace_oldest word some_capacity =
        let same = length_replaced x.words word (not_T (empty x.words) (λ e. eqb_no {a = x.capacity} some_capacity (sym full ∙ ap length (empty_nil e)))) in
        let count = (w.queues q).count in
        after_put (after_return (put_words _ (omega arith) (λ s. same ∙ full) (λ r. absurd (T_not (empty x.receivers) r no_receiver))))

    pub kept_wait_to_send : (me word : ℕ) (end : End) → CanWait m me → After Kept (wait_to_send q x me (m (task me)) word end) m
    unfolding wait_to_send set_standing place
    kept_wait_to_send me word end can =
        after_get_each task _ _ _ (after_put (after_put (after_return
        (join w me (senders_of q) _ (Sending q end word) can.defined can.able (defined_queue w q defined)
        (refit x.words (insert_at _ me x.senders) x.receivers (w.queues q).count (λ s. (full, empty_nil no_receiver)) (λ r. absurd (T_not (empty x.receivers) r no_receiver)))
        refl (λ b. cond_yes (senders_by_priority x.attribute) _ (length (map (λ n. (m (task n)).priority) x.senders)) b)))))

  -- ── Receive ──

  module _ (some_word : T (not (empty x.words))) where
    kept_take_oldest : T (empty x.senders) → After Kept (take_oldest q x) m
    unfolding take_oldest
    kept_take_oldest no_sender =
        let shorter = length_tail x.words in
        let count = (w.queues q).count in
        after_put (after_return (put_words _ (omega arith) (λ s. absurd (T_not (empty x.senders) s no_sender)) (λ r. ap tail ((w.queues q).receivers r).0)))

    -- The words first, then the head sender leaves.
    refilled : (words : List ℕ) → T (not (empty x.senders)) → WellFormedRows (update same_key (queue q) (with_words words x) m)
        → WellFormedRows (update same_key (task (head_d x.senders 0)) (ended E_OK 0 (m (task (head_d x.senders 0)))) (update same_key (queue q) (with_senders (tail x.senders) (with_words words x)) m))
    unfolding set_standing same_key update
    refilled words some_sender stored =
        let y = with_words words x in
        let is_y = update_same same_key (queue q) y m in
        subst (λ (n : Program.Rows Row). WellFormedRows (update same_key (task (head_d x.senders 0)) (ended E_OK 0 (m (task (head_d x.senders 0)))) n))
        (put_twice (queue q) y (with_senders (tail x.senders) y) m)
        (subst (λ (z : QueueRow). WellFormedRows (update same_key (task (head_d z.senders 0)) (ended E_OK 0 (m (task (head_d z.senders 0))))
        (update same_key (queue q) (with_senders (tail z.senders) z) (update same_key (queue q) y m)))) is_y
        (leave_head stored (senders_of q) E_OK 0 tt (subst (λ (z : QueueRow). T (not (empty z.senders))) (sym is_y) some_sender)))

    kept_take_oldest_and_refill : T (not (empty x.senders)) → After Kept (take_oldest_and_refill q x) m
    unfolding take_oldest_and_refill empty
    kept_take_oldest_and_refill some_sender =
        let y = (w.queues q).senders some_sender in
        let count = (w.queues q).count in
        let same = length_replaced x.words (held_word (m (task (head_d x.senders 0))).wait) some_word in
        after_get (after_put (after_put (after_return (refilled _ some_sender
        (put_words _ (omega arith) (λ s. same ∙ y.0) (λ r. absurd (T_not (empty x.words) some_word (subst (λ (l : List ℕ). T (empty l)) (sym ((w.queues q).receivers r).0) tt))))))))

  kept_take_from_sender : T (not (empty x.senders)) → After Kept (take_from_sender q x) m
  unfolding take_from_sender set_standing same_key update
  kept_take_from_sender some_sender = after_get (after_put (after_put (after_return (leave_head w (senders_of q) E_OK 0 tt some_sender))))

  pub kept_receive : (otherwise : Effect) → (T (empty x.words) → T (empty x.senders) → After Kept otherwise m)
      → After Kept (receive q x otherwise) m
  unfolding receive
  kept_receive otherwise h =
      after_if (λ words. after_if (kept_take_oldest words) (kept_take_oldest_and_refill words))
      (λ none. after_if kept_take_from_sender (λ no_sender. h (T_not-not (empty x.words) none) (T_not-not (empty x.senders) no_sender)))

  -- At an empty queue with no sender.
  pub kept_wait_to_receive : (me : ℕ) (end : End) → T (empty x.words) → T (empty x.senders) → CanWait m me
      → After Kept (wait_to_receive q x me (m (task me)) end) m
  unfolding wait_to_receive set_standing
  kept_wait_to_receive me end no_word no_sender can =
      after_put (after_put (after_return (rw (insert_at_end me x.receivers) at
      (join w me (receivers_of q) (length x.receivers) (Receiving q end) can.defined can.able (defined_queue w q defined)
      (refit x.words x.senders (insert_at (length x.receivers) me x.receivers) (w.queues q).count (λ s. absurd (T_not (empty x.senders) s no_sender)) (λ r. (empty_nil no_word, empty_nil no_sender)))
      refl (λ b. absurd b)))))

-- ── Create and delete ──

module _ {m : Program.Rows Row} (w : WellFormedRows m) (q : ℕ) where
  -- A whole row, where no task waits before and after.
  replace_queue : (v : QueueRow) → T (valid (queue q)) → (m (queue q)).senders ≡ [] → (m (queue q)).receivers ≡ []
      → v.attribute ≤ 1 → v.capacity ≤ capacity_limit → v.words ≡ [] → v.senders ≡ [] → v.receivers ≡ []
      → WellFormedRows (update same_key (queue q) v m)
  unfolding empty
  replace_queue v valid_queue no_sender no_receiver attribute capacity words senders receivers = put_queue w q v valid_queue
      (record {
        undefined = λ n. (words, senders, receivers);
        attribute_in_range = attribute;
        capacity_in_range = capacity;
        count = rw words (omega arith);
        senders = λ s. absurd (not_empty senders s);
        receivers = λ r. absurd (not_empty receivers r);
      })
      (senders ∙ sym no_sender) (receivers ∙ sym no_receiver) (λ b. rw senders no_key)
    where
      not_empty : {l : List ℕ} → l ≡ [] → T (not (empty l)) → ⊥
      not_empty e t = rw e at t

module _ {m : Program.Rows Row} (w : WellFormedRows m) (e : Environment) (v : View) (c : Call) where
  pub kept_create_queue : T (valid (queue c.object)) → T (not (m (queue c.object)).defined) → c.attribute ≤ 1 → capacity_of c ≤ capacity_limit
      → After Kept (cre_dtq e v c) m
  kept_create_queue valid_queue undefined attribute capacity =
      let before = (w.queues c.object).undefined undefined in
      after_put (after_return (replace_queue w c.object _ valid_queue before.1 before.2 attribute capacity refl refl refl))

  pub kept_delete_queue : m (queue c.object) ≡ v.the_queue → T (m (queue c.object)).defined → After Kept (del_dtq e v c) m
  kept_delete_queue shown defined =
      after_end_waits E_DLT tt (senders_of c.object) _ _ m w (ap (λ (y : QueueRow). y.senders) shown) λ n u a.
      after_end_waits E_DLT tt (receivers_of c.object) _ _ n u (a.other_lists (receivers_of c.object) other ∙ ap (λ (y : QueueRow). y.receivers) shown) λ o z b.
      after_put (after_return (replace_queue z c.object no_queue (defined_queue w c.object defined)
      (b.other_lists (senders_of c.object) (λ e. other (sym e)) ∙ a.no_one) b.no_one (omega arith) (omega arith) refl refl refl))
    where
      other : receivers_of c.object ≡ senders_of c.object → ⊥
      other e = let z : true ≡ false = cc in true≢false z
