-- `touches` goes by the decision: each arm names the one task that its program changes.
use Rattle.decide.proofs.Untouched.{by_define, by_end_wait, by_suspend, by_deliver, by_refill, by_take, by_deliver_message, by_join, no_task}
use Rattle.decide.proofs.touches.Goals as goal

pub returns-in-DefineTask : goal.returns-in-DefineTask
returns-in-DefineTask c = rw c.in-DefineTask.is (by_define _ _)

pub returns-in-EndWait : goal.returns-in-EndWait
returns-in-EndWait c = rw c.in-EndWait.is (by_end_wait _)

pub returns-in-Suspend : goal.returns-in-Suspend
returns-in-Suspend c = rw c.in-Suspend.is (by_suspend _ _)

pub returns-in-Deliver : goal.returns-in-Deliver
returns-in-Deliver c = rw c.in-Deliver.is (by_deliver _ _ _)

pub returns-in-TakeAndRefill : goal.returns-in-TakeAndRefill
returns-in-TakeAndRefill c = rw c.in-TakeAndRefill.is (by_refill _ _)

pub returns-in-TakeFromSender : goal.returns-in-TakeFromSender
returns-in-TakeFromSender c = rw c.in-TakeFromSender.is (by_take _ _)

pub returns-in-DeliverMessage : goal.returns-in-DeliverMessage
returns-in-DeliverMessage c = rw c.in-DeliverMessage.is (by_deliver_message _ _ _)

pub returns-in-Join : goal.returns-in-Join
returns-in-Join c = rw c.in-Join.is (by_join _ _ _)

pub returns-in-Tick : goal.returns-in-Tick
returns-in-Tick c m r t n = absurd (n tt)

pub returns-in-DeleteQueue : goal.returns-in-DeleteQueue
returns-in-DeleteQueue c m r t n = absurd (n tt)

pub returns-in-DeleteMailbox : goal.returns-in-DeleteMailbox
returns-in-DeleteMailbox c m r t n = absurd (n tt)

pub returns-in_default : goal.returns-in_default
returns-in_default c =
    no_task c.args.decision
    (record {
      not_define = c.in_default.not-DefineTask;
      not_end_wait = c.in_default.not-EndWait;
      not_suspend = c.in_default.not-Suspend;
      not_deliver = c.in_default.not-Deliver;
      not_refill = c.in_default.not-TakeAndRefill;
      not_take = c.in_default.not-TakeFromSender;
      not_deliver_message = c.in_default.not-DeliverMessage;
      not_join = c.in_default.not-Join;
      not_tick = c.in_default.not-Tick;
      not_delete_queue = c.in_default.not-DeleteQueue;
      not_delete_mailbox = c.in_default.not-DeleteMailbox;
    })
