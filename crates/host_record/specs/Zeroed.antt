-- A record whose bytes are all 0 is the empty one, so a host may take memory that was cleared for a record: every byte belongs to a field (Layout.antt), and each
-- field is 0 then.
use Rattle.std.specs.Prelude.{◌≡◌, replicate}
use Rattle.ring.specs.Ring.{places}
use Rattle.ring.specs.declared.Ring.{Ring}
use Rattle.chain.specs.Table.{cells, key_cells}
use Rattle.chain.specs.declared.Chains.{Chains}
use Rattle.model.specs.Rows.{empty_state}
use Rattle.parts.specs.declared.Queue.{Queue}
use Rattle.record.specs.Meaning.{zero_mailbox}
use Rattle.host_record.specs.declared.HostRecord.{HostRecord}
use Rattle.host_record.specs.Record.{HostSound, meaning}
use Rattle.host_record.specs.Written.{zero_numbers}

abbrev pub zeroed_ring : Ring
zeroed_ring = record { words = replicate places 0; head = 0; count = 0; capacity = 0; spare = 0 }

abbrev pub zeroed_queue : Queue
zeroed_queue = record { ring = zeroed_ring; defined = 0; attribute = 0; spare = 0 }

abbrev pub zeroed_chains : Chains
zeroed_chains = record { link = replicate cells 0; key = replicate key_cells 0 }

abbrev pub zeroed : HostRecord
zeroed = record {
  counter = 0;
  tasks = replicate 33 zero_numbers;
  queues = replicate 17 zeroed_queue;
  waiting = zeroed_chains;
  messages = zeroed_chains;
  mailboxes = replicate 17 zero_mailbox;
  spare = 0;
}

abbrev pub ZeroedIsEmpty : Type 0
ZeroedIsEmpty = HostSound zeroed × (meaning zeroed ≡ empty_state 0)
