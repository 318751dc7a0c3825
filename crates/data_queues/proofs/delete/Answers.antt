-- `delete` ends the waits of the senders, then those of the receivers, and makes the queue undefined: by what `end_all` promises of each chain.
use Rattle.model.specs.Waits.{senders_of, receivers_of}
use Rattle.data_queues.proofs.Laws.{on_receivers, senders_chain, receivers_chain}
use Rattle.data_queues.proofs.Objects.{deletes}
use Rattle.data_queues.proofs.delete.Goals as goal

pub end_all-requires-2 : goal.end_all-requires-2
end_all-requires-2 c =
    let unsent = c.end_all.ensures (senders_of c.args.queue) (senders_chain c.requires) in
    let receivers = on_receivers c.requires in
    record { sound = unsent.sound; low = receivers.low; high = receivers.high }

pub returns : goal.returns
returns c =
    let a = c.requires in
    let unsent = c.end_all.ensures (senders_of c.args.queue) (senders_chain a) in
    let alone = c.end_all-2.ensures (receivers_of c.args.queue) (receivers_chain a) in
    deletes a unsent alone c.new-ring.ensures c.finished-answer.ensures
