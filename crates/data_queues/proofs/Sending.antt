-- What each effect of a send leaves of a record is what its program leaves of the rows: by the laws of the record, the ring's promises and the waits'.
use mathlib.Core.Path.{◌≡◌}
use Prim.Native.Nat.{ℕ, ◌+◌}
use Rattle.rows.specs.Program.{update, run}
use Rattle.ring.specs.Ring.{Pushed, Replaced}
use Rattle.ring.specs.declared.Ring.{Ring}
use Rattle.model.specs.Rows.{same_key}
use Rattle.model.specs.Codes.{finished}
use Rattle.model.specs.WaitQueues.{release, set_standing}
use Rattle.model.specs.DataQueues.{deliver, store, replace_oldest}
use Rattle.model.specs.Waits.{receivers_of}
use Rattle.model.specs.declared.Answer.{Answer}
use Rattle.model.specs.declared.Code.TheVariants.{Ok as E_OK}
use Rattle.record.specs.declared.State.{State}
use Rattle.record.specs.Meaning.{queue_at}
use Rattle.record.specs.Step.{Does}
use Rattle.record.proofs.Laws.{with_queue}
use Rattle.waits.specs.Waiting.{Released}
use Rattle.data_queues.specs.Premises.{queue_in, AtQueue}
use Rattle.data_queues.proofs.Laws.{words_are, receivers_chain, with_ring, ring_changed}

module _ {s : State} {q : ℕ} (a : AtQueue s q) {word : ℕ} {y : Answer} (ok : y ≡ finished E_OK 0 0 0) where
  pub delivers : {u : State} → Released s (16 + q) word u → Does (deliver q (queue_in s q) word) s (record { state = u; answer = y })
  unfolding deliver release run same_key update set_standing
  delivers e = record { becomes = e.becomes (receivers_of q) (receivers_chain a); answer_is = ok }

  pub stores : {r : Ring} → Pushed (queue_at s q).ring word r
      → Does (store q (queue_in s q) word) s (record { state = with_queue q (with_ring a r) s; answer = y })
  unfolding store run
  stores {r} p = record {
    becomes = ring_changed a r p.kept.in_range p.kept.capacity_is _ (rw (words_are a) p.words_are);
    answer_is = ok;
  }

  pub replaces : {r : Ring} → Replaced (queue_at s q).ring word r
      → Does (replace_oldest q (queue_in s q) word) s (record { state = with_queue q (with_ring a r) s; answer = y })
  unfolding replace_oldest run
  replaces {r} p = record {
    becomes = ring_changed a r p.kept.in_range p.kept.capacity_is _ (rw (words_are a) p.words_are);
    answer_is = ok;
  }
