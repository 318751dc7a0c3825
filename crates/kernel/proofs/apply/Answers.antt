-- `apply` goes by the decision: each arm's function does the program that the decision stands for.
use mathlib.Core.Path.{refl}
use Rattle.rows.specs.Program.{run}
use Rattle.decide.specs.Decisions.{ran}
use Rattle.decide.specs.declared.Decision.TheVariants.{Refuse, Say, Tick}
use Rattle.kernel.specs.Steps.{Appliable}
use Rattle.kernel.proofs.Arms.{at_queue, on_mailbox, may_join, nothing_done, something_done, done, joined}
use Rattle.kernel.proofs.apply.Goals as goal

pub tick-requires : goal.tick-requires
tick-requires c =
    let a : Appliable _ Tick = rw c.in-Tick.is at c.requires in
    a.sound tt

pub define-requires : goal.define-requires
define-requires c =
    let a : Appliable _ _ = rw c.in-DefineTask.is at c.requires in
    (a.sound tt, a.ready)

pub end_wait-requires : goal.end_wait-requires
end_wait-requires c =
    let a : Appliable _ _ = rw c.in-EndWait.is at c.requires in
    (a.sound tt, a.ready.0, a.ready.1)

pub suspend-requires : goal.suspend-requires
suspend-requires c =
    let a : Appliable _ _ = rw c.in-Suspend.is at c.requires in
    (a.sound tt, a.ready)

pub create-requires : goal.create-requires
create-requires c =
    let a : Appliable _ _ = rw c.in-CreateQueue.is at c.requires in
    record { sound = a.sound tt; valid_queue = a.ready.valid_queue; undefined = a.ready.undefined; capacity_fits = a.ready.capacity_in_range }

pub delete-requires : goal.delete-requires
delete-requires c =
    let a : Appliable _ _ = rw c.in-DeleteQueue.is at c.requires in
    at_queue (a.sound tt) a.ready

pub deliver-requires : goal.deliver-requires
deliver-requires c =
    let a : Appliable _ _ = rw c.in-Deliver.is at c.requires in
    (at_queue (a.sound tt) a.ready.0, a.ready.1)

pub store-requires : goal.store-requires
store-requires c =
    let a : Appliable _ _ = rw c.in-Store.is at c.requires in
    (at_queue (a.sound tt) a.ready.0, a.ready.1)

pub replace_oldest-requires : goal.replace_oldest-requires
replace_oldest-requires c =
    let a : Appliable _ _ = rw c.in-Replace.is at c.requires in
    (at_queue (a.sound tt) a.ready.0, a.ready.1)

pub take_oldest-requires : goal.take_oldest-requires
take_oldest-requires c =
    let a : Appliable _ _ = rw c.in-TakeOldest.is at c.requires in
    (at_queue (a.sound tt) a.ready.0, a.ready.1)

pub take_oldest_and_refill-requires : goal.take_oldest_and_refill-requires
take_oldest_and_refill-requires c =
    let a : Appliable _ _ = rw c.in-TakeAndRefill.is at c.requires in
    (at_queue (a.sound tt) a.ready.0, a.ready.1, a.ready.2)

pub take_from_sender-requires : goal.take_from_sender-requires
take_from_sender-requires c =
    let a : Appliable _ _ = rw c.in-TakeFromSender.is at c.requires in
    (at_queue (a.sound tt) a.ready.0, a.ready.1)

pub create-requires-in-CreateMailbox : goal.create-requires-in-CreateMailbox
create-requires-in-CreateMailbox c =
    let a : Appliable _ _ = rw c.in-CreateMailbox.is at c.requires in
    record { sound = a.sound tt; valid_mailbox = a.ready.valid_mailbox; undefined = a.ready.undefined; highest_kept = a.ready.highest_kept }

pub delete-requires-in-DeleteMailbox : goal.delete-requires-in-DeleteMailbox
delete-requires-in-DeleteMailbox c =
    let a : Appliable _ _ = rw c.in-DeleteMailbox.is at c.requires in
    on_mailbox (a.sound tt) a.ready

pub deliver_message-requires : goal.deliver_message-requires
deliver_message-requires c =
    let a : Appliable _ _ = rw c.in-DeliverMessage.is at c.requires in
    record { on = on_mailbox (a.sound tt) a.ready.0; someone = a.ready.1 }

pub queue_message-requires : goal.queue_message-requires
queue_message-requires c =
    let a : Appliable _ _ = rw c.in-QueueMessage.is at c.requires in
    record { on = on_mailbox (a.sound tt) a.ready.there; valid_message = a.ready.valid_message; is_free = a.ready.is_free; in_range = a.ready.in_range }

pub take_message-requires : goal.take_message-requires
take_message-requires c =
    let a : Appliable _ _ = rw c.in-TakeMessage.is at c.requires in
    record { on = on_mailbox (a.sound tt) a.ready.0; something = a.ready.1 }

pub join-requires : goal.join-requires
join-requires c =
    let a : Appliable _ _ = rw c.in-Join.is at c.requires in
    may_join c.in-Join.ranked c.in-Join.wait (a.sound tt) a.ready.0 a.ready.1

pub returns-in-Refuse : goal.returns-in-Refuse
unfolding ran run
returns-in-Refuse c = rw c.in-Refuse.is (nothing_done (Refuse _) tt (rw c.finished.ensures refl))

pub returns-in-Say : goal.returns-in-Say
unfolding ran run
returns-in-Say c = rw c.in-Say.is (nothing_done (Say _ _ _ _) tt (rw c.finished-in-Say.ensures refl))

pub returns-in-Tick : goal.returns-in-Tick
returns-in-Tick c = rw c.in-Tick.is (something_done _ tt c.tick.ensures.meaning_is c.tick.ensures.answer_is c.tick.ensures.readable)

pub returns-in-DefineTask : goal.returns-in-DefineTask
returns-in-DefineTask c = rw c.in-DefineTask.is (done _ tt c.define.ensures refl)

pub returns-in-EndWait : goal.returns-in-EndWait
returns-in-EndWait c = rw c.in-EndWait.is (done _ tt c.end_wait.ensures refl)

pub returns-in-Suspend : goal.returns-in-Suspend
returns-in-Suspend c = rw c.in-Suspend.is (done _ tt c.suspend.ensures refl)

pub returns-in-CreateQueue : goal.returns-in-CreateQueue
returns-in-CreateQueue c = rw c.in-CreateQueue.is (done _ tt c.create.ensures refl)

pub returns-in-DeleteQueue : goal.returns-in-DeleteQueue
returns-in-DeleteQueue c = rw c.in-DeleteQueue.is (done _ tt c.delete.ensures refl)

pub returns-in-Deliver : goal.returns-in-Deliver
returns-in-Deliver c = rw c.in-Deliver.is (done _ tt c.deliver.ensures refl)

pub returns-in-Store : goal.returns-in-Store
returns-in-Store c = rw c.in-Store.is (done _ tt c.store.ensures refl)

pub returns-in-Replace : goal.returns-in-Replace
returns-in-Replace c = rw c.in-Replace.is (done _ tt c.replace_oldest.ensures refl)

pub returns-in-TakeOldest : goal.returns-in-TakeOldest
returns-in-TakeOldest c = rw c.in-TakeOldest.is (done _ tt c.take_oldest.ensures refl)

pub returns-in-TakeAndRefill : goal.returns-in-TakeAndRefill
returns-in-TakeAndRefill c = rw c.in-TakeAndRefill.is (done _ tt c.take_oldest_and_refill.ensures refl)

pub returns-in-TakeFromSender : goal.returns-in-TakeFromSender
returns-in-TakeFromSender c = rw c.in-TakeFromSender.is (done _ tt c.take_from_sender.ensures refl)

pub returns-in-CreateMailbox : goal.returns-in-CreateMailbox
returns-in-CreateMailbox c = rw c.in-CreateMailbox.is (done _ tt c.create-in-CreateMailbox.ensures refl)

pub returns-in-DeleteMailbox : goal.returns-in-DeleteMailbox
returns-in-DeleteMailbox c = rw c.in-DeleteMailbox.is (done _ tt c.delete-in-DeleteMailbox.ensures refl)

pub returns-in-DeliverMessage : goal.returns-in-DeliverMessage
returns-in-DeliverMessage c = rw c.in-DeliverMessage.is (done _ tt c.deliver_message.ensures refl)

pub returns-in-QueueMessage : goal.returns-in-QueueMessage
returns-in-QueueMessage c = rw c.in-QueueMessage.is (done _ tt c.queue_message.ensures refl)

pub returns-in-TakeMessage : goal.returns-in-TakeMessage
returns-in-TakeMessage c = rw c.in-TakeMessage.is (done _ tt c.take_message.ensures refl)

pub returns-in-Join : goal.returns-in-Join
returns-in-Join c =
    let a : Appliable _ _ = rw c.in-Join.is at c.requires in
    rw c.in-Join.is (done _ tt (joined c.in-Join.ranked c.in-Join.wait (a.sound tt) a.ready.1 c.join.ensures) refl)
