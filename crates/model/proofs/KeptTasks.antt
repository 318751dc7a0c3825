-- The calls on tasks keep the rows well-formed: by the moves.
use mathlib.Core.Path.{◌≡◌, refl, ap}
use mathlib.Core.Bool.{true, false, not}
use mathlib.Core.Option.{some}
use Prim.Native.Nat.{ℕ, ◌≤◌}
use lib.Dec.{T}
use Rattle.lists.specs.Lists.{without}
use Rattle.rows.specs.Program as Program
use Rattle.rows.proofs.Update.{update_same}
use Rattle.model.specs.Sizes.{priority_limit}
use Rattle.model.specs.Rows.{task, same_key, valid, Row, TaskRow, Environment, Effect}
use Rattle.model.specs.Codes.{Code}
use Rattle.model.specs.Calls.{Call, View, task_priority_of}
use Rattle.model.specs.Waits.{Wait, NoWait, Sending, Receiving, AtMailbox, able, ended, WaitQueue, senders_of, receivers_of, waiters_of, wait_queue}
use Rattle.model.specs.WaitQueues.{end_wait, standing_in, set_standing}
use Rattle.model.specs.Tasks.{define_task, sus_tsk, rsm_tsk}
use Rattle.model.specs.WellFormed.{ends_a_wait, WellFormedRows}
use Rattle.model.specs.declared.Answer.{Answer}
use Rattle.model.proofs.WaitMoves.{leave}
use Rattle.model.proofs.RowMoves.{put_task, put_suspension}
use Rattle.model.proofs.After.{After, after_return, after_put, after_end_wait, Kept}

-- A task that isn't able waits somewhere.
pub record Somewhere (x : Wait) : Type 0 where
  pub queue_named : WaitQueue
  pub named : wait_queue x ≡ some queue_named

pub waits_somewhere : (x : Wait) → T (not (able x)) → Somewhere x
waits_somewhere NoWait t = absurd t
waits_somewhere (Sending q end word) t = record { queue_named = senders_of q; named = refl }
waits_somewhere (Receiving q end) t = record { queue_named = receivers_of q; named = refl }
waits_somewhere (AtMailbox b end) t = record { queue_named = waiters_of b; named = refl }

module _ {m : Program.Rows Row} (w : WellFormedRows m) (e : Environment) (v : View) (c : Call) (valid_task : T (valid (task c.object))) where
  pub kept_define_task : T (not (m (task c.object)).defined) → 1 ≤ task_priority_of c → task_priority_of c ≤ priority_limit
      → After Kept (define_task e v c) m
  kept_define_task undefined low high =
      after_put (after_put (after_return (put_suspension
      (put_task w c.object _ valid_task (record { undefined = λ n. refl; priority_in_range = λ d. (low, high); object_in_range = tt; code = tt })
      tt refl ((w.tasks c.object).undefined undefined))
      c.object false valid_task (λ s. absurd s))))

  pub kept_sus_tsk : T (m (task c.object)).defined → After Kept (sus_tsk e v c) m
  kept_sus_tsk defined = after_put (after_return (put_suspension w c.object true valid_task (λ s. defined)))

  pub kept_rsm_tsk : After Kept (rsm_tsk e v c) m
  kept_rsm_tsk = after_put (after_return (put_suspension w c.object false valid_task (λ s. absurd s)))

-- The wait of a task ends, and the rest of the program goes on from well-formed rows where it has none.
pub kept_end_wait : {Q : Program.Rows Row → Answer → Type 0} {m : Program.Rows Row} → WellFormedRows m →
    (t : ℕ) (code : Code) (p : Effect) → T (ends_a_wait code) → T (not (able (m (task t)).wait))
    → ((n : Program.Rows Row) → WellFormedRows n → (n (task t)).wait ≡ NoWait → After Q p n) → After Q (end_wait t code p) m
kept_end_wait {m = m} w t code p ends waits h =
    let s = waits_somewhere (m (task t)).wait waits in
    let rows = set_standing s.queue_named (without t (standing_in m s.queue_named)) m in
    after_end_wait t code s.queue_named p m s.named
    (h _ (leave w t s.queue_named code 0 ends s.named) (ap (λ (x : TaskRow). x.wait) (update_same same_key (task t) (ended code 0 (m (task t))) rows)))
