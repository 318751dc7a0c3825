-- The numbers of a sound host's record say something: none is beyond what its meaning has room for. So a record with such a number gets E_SYS.
use Rattle.std.specs.Prelude.{ℕ, ◌≤◌, T, get_or}
use Rattle.model.specs.Rows.{task, queue, mailbox, valid}
use Rattle.host_tasks.specs.Tasks.{TaskNumbers}
use Rattle.record.specs.Meaning.{zero_queue, zero_mailbox}
use Rattle.host_record.specs.declared.HostRecord.{HostRecord}
use Rattle.host_record.specs.Record.{HostSound}
use Rattle.host_record.specs.Written.{zero_numbers}

-- Cells of number 0 may hold anything.
pub record NumbersSaySomething (r : HostRecord) : Type 0 where
  pub tasks : (t : ℕ) → T (valid (task t)) → TaskNumbers (get_or r.tasks t zero_numbers)
  pub queues : (q : ℕ) → T (valid (queue q)) → (get_or r.queues q zero_queue).defined ≤ 1
  pub mailboxes : (b : ℕ) → T (valid (mailbox b)) → (get_or r.mailboxes b zero_mailbox).defined ≤ 1

abbrev pub SoundInRange : Type 0
SoundInRange = (r : HostRecord) → HostSound r → NumbersSaySomething r
