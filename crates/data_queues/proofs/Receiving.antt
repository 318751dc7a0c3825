-- What each effect of a receive leaves of a record is what its program leaves of the rows: by the laws of the record, the ring's promises and the waits'.
use mathlib.Core.Path.{◌≡◌, refl, sym, ap, ◌∙◌, fun_ext}
use mathlib.Core.Bool.{not}
use mathlib.Core.List.{[], ◌∷◌, ◌++◌, tail, head_d, Memᴰ as In}
use Prim.Native.Nat.{ℕ, ◌<◌, ◌≤◌}
use native.Mathlib.Omega.{arith}
use lib.Dec.{T}
use lib.ListN.{length}
use Rattle.lists.specs.Lists.{empty}
use Rattle.lists.proofs.Stands.{in_head}
use Rattle.rows.specs.Program as Program
use Rattle.rows.specs.Program.{update, run}
use Rattle.rows.proofs.Update.{update_same}
use Rattle.ring.specs.Ring.{stored, Pushed, OldestPopped}
use Rattle.ring.specs.declared.Ring.{Ring}
use Rattle.model.specs.Rows.{Key, task, suspension, queue, mailbox, message, same_key, Row, TaskRow, QueueRow, with_words, with_senders}
use Rattle.model.specs.Codes.{finished}
use Rattle.model.specs.Waits.{held_word, ended, senders_of}
use Rattle.model.specs.WaitQueues.{set_standing}
use Rattle.model.specs.DataQueues.{take_oldest, take_oldest_and_refill, take_from_sender}
use Rattle.model.specs.declared.Answer.{Answer}
use Rattle.model.specs.declared.Code.TheVariants.{Ok as E_OK}
use Rattle.model.proofs.Standing.{put_twice}
use Rattle.parts.specs.Queues.{queue_row}
use Rattle.parts.specs.declared.Queue.{Queue}
use Rattle.record.specs.declared.State.{State}
use Rattle.record.specs.Meaning.{queue_at, task_at, abs}
use Rattle.record.specs.Step.{Becomes, Does}
use Rattle.record.proofs.Rows.{row_is}
use Rattle.record.proofs.Laws.{with_queue, queue_changed, and_then, meaning}
use Rattle.waits.proofs.Laws.{rows_of, chain_of_queue, waiter_valid}
use Rattle.waits.specs.Waiting.{chain_list, Released, released}
use Rattle.data_queues.specs.Premises.{queue_in, AtQueue}
use Rattle.data_queues.proofs.Laws.{words_are, capacity_is, on_senders, senders_chain, with_ring, ring_row, ring_readable, ring_changed}

module _ {s : State} {q : ℕ} (a : AtQueue s q) where
  abbrev x : QueueRow
  x = queue_in s q

  abbrev cell : Queue
  cell = queue_at s q

  -- The word that the head sender holds.
  abbrev held : ℕ
  held = held_word ((abs s).rows (task (head_d x.senders 0))).wait

  -- The head sender's cells say what it waits for.
  pub sender_word : {sender : ℕ} → sender ≡ head_d (chain_list s q) 0 → T (not (empty x.senders)) → held_word (task_at s sender).wait ≡ held
  sender_word {sender} first_is some =
      ap (λ (y : TaskRow). held_word y.wait) (sym (row_is s (task sender) (waiter_valid a.sound (senders_of q) in_senders)))
      ∙ ap (λ t. held_word ((abs s).rows (task t)).wait) head_is
    where
      head_is : sender ≡ head_d x.senders 0
      head_is = first_is ∙ ap (λ l. head_d l 0) (sym (chain_of_queue (on_senders a) (senders_of q) (senders_chain a)))

      in_senders : In sender x.senders
      in_senders = rw head_is (in_head x.senders some)

  -- A popped ring has room.
  pub room_again : {word : ℕ} {r : Ring} → OldestPopped cell.ring word r → length (stored r) < r.capacity
  room_again {word} {r} p =
      let count : length (stored cell.ring) ≤ cell.ring.capacity = rw (words_are a, capacity_is a) at ((rows_of a.sound).queues q).count in
      let n = ap length p.words_were in
      let c = p.kept.capacity_is in
      omega arith

  -- The oldest word, and those behind it.
  module _ {word : ℕ} {r : Ring} (p : OldestPopped cell.ring word r) where
    oldest_is : head_d x.words 0 ≡ word
    unfolding head_d
    oldest_is = rw (words_are a, p.words_were) refl

    rest_is : tail x.words ≡ stored r
    rest_is = rw (words_are a, p.words_were) refl

    pub takes_oldest : {y : Answer} → y ≡ finished E_OK word 0 0 → Does (take_oldest q x) s (record { state = with_queue q (with_ring a r) s; answer = y })
    unfolding take_oldest run
    takes_oldest e = record {
      becomes = ring_changed a r p.kept.in_range p.kept.capacity_is _ (sym rest_is);
      answer_is = e ∙ ap (λ n. finished E_OK n 0 0) (sym oldest_is);
    }

    -- The head sender's word is pushed behind them, and the sender released.
    pub takes_oldest_and_refills : {r' : Ring} {u : State} {y : Answer} {pushed : ℕ} → Released s q 0 u → pushed ≡ held → Pushed r pushed r'
        → y ≡ finished E_OK word 0 0 → Does (take_oldest_and_refill q x) s (record { state = with_queue q (with_ring a r') u; answer = y })
    unfolding take_oldest_and_refill run same_key update set_standing
    takes_oldest_and_refills {r'} {u} {y} e pushed_is f ok = record {
      becomes = meaning (ap (λ v. update same_key (queue q) v (abs u).rows) new_row ∙ (ap (update same_key (queue q) filled) b.rows_are ∙ fun_ext same))
          (and_then b (queue_changed b.readable q a.valid_queue (with_ring a r') (ring_readable a r' f.kept.in_range)));
      answer_is = ok ∙ ap (λ n. finished E_OK n 0 0) (sym oldest_is);
    }
      where
        b : Becomes s (released (senders_of q) 0 (abs s).rows) u
        b = e.becomes (senders_of q) (senders_chain a)

        sender : ℕ
        sender = head_d x.senders 0

        filled : QueueRow
        filled = with_senders (tail x.senders) (with_words (tail x.words ++ held ∷ []) x)

        without_head : queue_in u q ≡ with_senders (tail x.senders) x
        without_head = ap (λ (m : Program.Rows Row). m (queue q)) b.rows_are
            ∙ update_same same_key (queue q) (with_senders (tail x.senders) x) (abs s).rows

        new_row : queue_row (with_ring a r') (queue_in u q).senders (queue_in u q).receivers ≡ filled
        new_row = ap (λ (z : QueueRow). queue_row (with_ring a r') z.senders z.receivers) without_head
            ∙ (ring_row a r' (tail x.senders) x.receivers (f.kept.capacity_is ∙ p.kept.capacity_is)
            ∙ ap (λ l. with_senders (tail x.senders) (with_words l x)) (f.words_are ∙ rw (pushed_is, rest_is) refl))

        -- The queue's row is written twice, before and after the sender's; the second stays.
        same : (k : Key) → update same_key (queue q) filled (released (senders_of q) 0 (abs s).rows) k
            ≡ update same_key (task sender) (ended E_OK 0 ((abs s).rows (task sender))) (update same_key (queue q) filled (abs s).rows) k
        same (task t) = refl
        same (suspension t) = refl
        same (queue j) = ap (λ (m : Program.Rows Row). m (queue j))
            (put_twice (queue q) (with_senders (tail x.senders) x) filled (abs s).rows)
        same (mailbox b) = refl
        same (message g) = refl

  pub takes_from_sender : {u : State} {y : Answer} → Released s q 0 u → y ≡ finished E_OK held 0 0
      → Does (take_from_sender q x) s (record { state = u; answer = y })
  unfolding take_from_sender run same_key update set_standing
  takes_from_sender e ok = record { becomes = e.becomes (senders_of q) (senders_chain a); answer_is = ok }
