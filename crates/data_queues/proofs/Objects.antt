-- A data queue is created, and one is deleted: by the laws of the record, and those of waits that end from the head on.
use mathlib.Core.Path.{◌≡◌, refl, sym, ap, ◌∙◌}
use mathlib.Core.List.{[]}
use Prim.Native.Nat.{ℕ}
use native.Mathlib.Omega.{arith}
use Rattle.rows.specs.Program.{put, update, run}
use Rattle.ring.specs.Ring.{NoWordStored}
use Rattle.ring.specs.declared.Ring.{Ring}
use Rattle.model.specs.Rows.{queue, Effect, same_key, QueueRow, no_queue}
use Rattle.model.specs.Codes.{finished, done}
use Rattle.model.specs.WaitQueues.{end_waits}
use Rattle.model.specs.DataQueues.{create, delete}
use Rattle.model.specs.Waits.{senders_of, receivers_of}
use Rattle.model.specs.declared.Answer.{Answer}
use Rattle.model.specs.declared.Code.TheVariants.{Ok as E_OK, Dlt as E_DLT}
use Rattle.model.proofs.After.{after_return, after_put}
use Rattle.parts.specs.declared.Queue.{Queue}
use Rattle.record.specs.declared.State.{State}
use Rattle.record.specs.Meaning.{abs}
use Rattle.record.specs.Step.{Becomes, Does}
use Rattle.record.proofs.Laws.{with_queue, queue_changed, meaning, does, does_rest}
use Rattle.waits.specs.Waiting.{Cleared}
use Rattle.waits.proofs.Laws.{rows_of}
use Rattle.data_queues.specs.Premises.{queue_in, AtQueue, Creatable}

-- ── Creating ──

-- A queue's cells with this ring.
abbrev new_queue : ℕ → ℕ → Ring → Queue
new_queue flag attribute r = record { ring = r; defined = flag; attribute = attribute; spare = 0 }

-- Nobody waits at a queue that isn't there yet.
pub creates : {s : State} {q attribute capacity : ℕ} → Creatable s q capacity → {r : Ring} {y : Answer} → NoWordStored capacity r → y ≡ finished E_OK 0 0 0
    → Does (create q attribute capacity) s (record { state = with_queue q (new_queue 1 attribute r) s; answer = y })
creates {s} {q} {attribute} {capacity} a {r} none ok = does (after_put (after_return (
  meaning (ap (λ (x : QueueRow). update same_key (queue q) x (abs s).rows) (rw (missing.0, missing.1, none.words_are, none.kept.capacity_is) refl))
      (queue_changed a.sound.readable q a.valid_queue (new_queue 1 attribute r) (record { flag = omega arith; ring = λ d. none.kept.in_range })),
  ok,
)))
  where
    missing : ((queue_in s q).senders ≡ []) × ((queue_in s q).receivers ≡ [])
    missing = let u = ((rows_of a.sound).queues q).undefined a.undefined in (u.1, u.2)

-- ── Deleting ──

-- When all waits have ended, what is left of the program makes the queue undefined.
pub deletes : {s u w : State} {q : ℕ} → AtQueue s q → Cleared (senders_of q) E_DLT s u → Cleared (receivers_of q) E_DLT u w
    → {r : Ring} {y : Answer} → NoWordStored 0 r → y ≡ finished E_OK 0 0 0
    → Does (delete q (queue_in s q)) s (record { state = with_queue q (new_queue 0 0 r) w; answer = y })
deletes {s} {u} {w} {q} at A B {r} none ok = does_rest run_is (B.counter_is ∙ A.counter_is) (does (after_put (after_return (b, ok))))
  where
    differ : receivers_of q ≡ senders_of q → ⊥
    differ z = let o : ◌≡◌ {A = ℕ} 0 1 = cc in omega arith

    last : Effect
    last = put (queue q) no_queue done

    run_is : run same_key (delete q (queue_in s q)) (abs s).rows ≡ run same_key last (abs w).rows
    run_is = A.runs (end_waits (queue_in s q).receivers E_DLT last)
        ∙ (ap (λ l. run same_key (end_waits l E_DLT last) (abs u).rows) (sym (A.others (receivers_of q) differ)) ∙ B.runs last)

    no_sender : (queue_in w q).senders ≡ []
    no_sender = B.others (senders_of q) (λ z. differ (sym z)) ∙ A.no_one

    b : Becomes w (update same_key (queue q) no_queue (abs w).rows) (with_queue q (new_queue 0 0 r) w)
    b = meaning (ap (λ (x : QueueRow). update same_key (queue q) x (abs w).rows) (rw (no_sender, B.no_one, none.words_are) refl))
        (queue_changed B.sound.readable q at.valid_queue (new_queue 0 0 r) (record { flag = omega arith; ring = λ d. absurd d }))
