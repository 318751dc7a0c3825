-- The state that a host's record holds, and so what the record means and when it is sound.
use Rattle.std.specs.Prelude.{map}
use Rattle.model.specs.Rows.{Model}
use Rattle.model.specs.Engine.{Engine}
use Rattle.host_tasks.specs.Tasks.{read_task}
use Rattle.record.specs.declared.State.{State}
use Rattle.record.specs.Meaning.{abs}
use Rattle.record.specs.Sound.{Readable, Sound}
use Rattle.record.specs.Equal.{SameState}
use Rattle.host_record.specs.declared.HostRecord.{HostRecord}

-- The tasks are read from their numbers; all else is the state's own. The spare byte says nothing, nor do the numbers that a task's wait doesn't use.
unfoldable pub state_of : HostRecord → State
state_of r = record {
  counter = r.counter;
  tasks = map read_task r.tasks;
  queues = r.queues;
  waiting = r.waiting;
  messages = r.messages;
  mailboxes = r.mailboxes;
}

abbrev pub HostSound : HostRecord → Type 0
HostSound r = Sound (state_of r)

abbrev pub meaning : HostRecord → Model
meaning r = abs (state_of r)

-- What a step of a host's record promises is what a step of any engine's record does (crate model, Engine.antt).
abbrev pub host_engine : Engine HostRecord
host_engine = record { abs = meaning; Readable = λ r. Readable (state_of r); Sound = HostSound; Same = λ r u. SameState (state_of r) (state_of u) }
