-- A task that waits at a data queue, for whoever calls `join`: what it asks, and that what it leaves is what the program leaves of the rows.
use mathlib.Core.Path.{◌≡◌, ◌∙◌, ap}
use mathlib.Core.Bool.{Bool, false}
use mathlib.Core.List.{[], ◌∷◌, ◌++◌, map}
use Prim.Native.Nat.{ℕ}
use lib.Dec.{T}
use lib.ListN.{length, length-map}
use Rattle.lists.specs.Lists.{insert_at}
use Rattle.lists.proofs.Changes.{insert_at_end}
use Rattle.rows.specs.Program.{update, run}
use Rattle.model.specs.Rows.{task, queue, same_key, TaskRow, QueueRow, senders_by_priority, with_receivers}
use Rattle.model.specs.Codes.{waits}
use Rattle.model.specs.WaitQueues.{place, set_standing}
use Rattle.model.specs.DataQueues.{wait_to_send, wait_to_receive}
use Rattle.model.specs.Waits.{starting, senders_of, receivers_of}
use Rattle.model.specs.declared.End.{End}
use Rattle.model.specs.declared.Wait.TheVariants.{NoWait, Sending, Receiving}
use Rattle.model.proofs.After.{after_return, after_put, after_get_each}
use Rattle.parts.specs.Chains.{wait_chain}
use Rattle.record.specs.declared.State.{State}
use Rattle.record.specs.declared.Step.{Step}
use Rattle.record.specs.Meaning.{abs}
use Rattle.record.specs.Step.{Does}
use Rattle.record.proofs.Laws.{meaning, does}
use Rattle.waits.specs.Waiting.{Joinable, Joined}
use Rattle.data_queues.specs.Premises.{queue_in, AtQueue}
use Rattle.data_queues.proofs.Laws.{on_senders, on_receivers, senders_chain, receivers_chain}

module _ {s : State} {q : ℕ} (a : AtQueue s q) where
  abbrev x : QueueRow
  x = queue_in s q

  module _ {me : ℕ} (end : End) (defined : T ((abs s).rows (task me)).defined) (able : ((abs s).rows (task me)).wait ≡ NoWait) where
    pub may_wait_to_send : (word : ℕ) → Joinable s (wait_chain (Sending q end word)) me
    may_wait_to_send word = record { on = on_senders a; defined = defined; able = able }

    pub may_wait_to_receive : Joinable s (wait_chain (Receiving q end)) me
    may_wait_to_receive = record { on = on_receivers a; defined = defined; able = able }

  pub waits_to_send : {me word : ℕ} {end : End} {ranked : Bool} {r : Step} → ranked ≡ senders_by_priority x.attribute
      → Joined s (wait_chain (Sending q end word)) me ranked (Sending q end word) r → Does (wait_to_send q x me ((abs s).rows (task me)) word end) s r
  unfolding wait_to_send set_standing
  waits_to_send e j = does (after_get_each task _ _ _ (after_put (after_put (after_return
      (rw e at (j.becomes (senders_of q) (senders_chain a)), rw e at (j.answer_is (senders_of q) (senders_chain a)))))))

  pub waits_to_receive : {me : ℕ} {end : End} {ranked : Bool} {r : Step} → ranked ≡ false
      → Joined s (wait_chain (Receiving q end)) me ranked (Receiving q end) r → Does (wait_to_receive q x me ((abs s).rows (task me)) end) s r
  unfolding wait_to_receive run same_key update set_standing place
  waits_to_receive {me} {end} {r = r} e joined = record {
    becomes = meaning (ap (λ l. update same_key (task me) row (update same_key (queue q) (with_receivers l x) (abs s).rows)) last)
        (j.becomes (receivers_of q) (receivers_chain a));
    answer_is = j.answer_is (receivers_of q) (receivers_chain a) ∙ ap waits (simp length-map);
  }
    where
      row : TaskRow
      row = starting (Receiving q end) ((abs s).rows (task me))

      j : Joined s (wait_chain (Receiving q end)) me false (Receiving q end) r
      j = rw e at joined

      last : insert_at (length (map (λ t. ((abs s).rows (task t)).priority) x.receivers)) me x.receivers ≡ x.receivers ++ me ∷ []
      last = ap (λ n. insert_at n me x.receivers) (simp length-map) ∙ insert_at_end me x.receivers
