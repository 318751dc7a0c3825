-- The promises of the methods speak of a wait queue that there is: by the chain's range, and by the cases of a wait.
use mathlib.Core.Path.{ap, sym, ◌∙◌}
use Rattle.model.specs.Rows.{task, TaskRow}
use Rattle.model.specs.Waits.{wait_queue}
use Rattle.model.proofs.KeptTasks.{waits_somewhere}
use Rattle.record.specs.Meaning.{task_at}
use Rattle.waits.specs.Waiting.{EveryChainHasAQueue, NoChainHasTwoQueues, EveryWaitNamesAQueue}
use Rattle.record.proofs.Rows.{row_is}
use Rattle.record.proofs.Chains.{chain_owner}
use Rattle.record.proofs.Laws.{chains_apart}

pub every_chain_has_a_queue : EveryChainHasAQueue
every_chain_has_a_queue chain low high =
    let o = chain_owner chain low high in
    record { queue = o.owner; is = record { valid_object = o.in_range; chain_is = o.chain_is } }

pub no_chain_has_two_queues : NoChainHasTwoQueues
no_chain_has_two_queues chain k d a b = chains_apart k d a.valid_object b.valid_object (a.chain_is ∙ sym b.chain_is)

pub every_wait_names_a_queue : EveryWaitNamesAQueue
every_wait_names_a_queue s t a =
    let here = waits_somewhere (task_at s t).wait a.waits in
    record { queue = here.queue_named; is = ap (λ (x : TaskRow). wait_queue x.wait) (row_is s (task t) a.valid_task) ∙ here.named }
