-- Whose each chain of the record's two tables is: 48 chains of the 32 tasks and 16 chains of the 64 messages. The code has 16 and 32 as RECEIVERS and WAITERS.
use Rattle.std.specs.Prelude.{List, [], ℕ, ◌+◌, get_or}
use Rattle.std.proofs.Math.Option
use Rattle.std.proofs.Math.Option.{map}
use Rattle.chain.specs.Table.{lists}
use Rattle.model.specs.Sizes.{task_limit, message_limit}
use Rattle.model.specs.declared.Wait.{Wait}
use Rattle.model.specs.Waits.{WaitQueue, senders_of, receivers_of, waiters_of, wait_queue}

abbrev pub task_chains : ℕ
task_chains = 48

abbrev pub message_chains : ℕ
message_chains = 16

-- The chain of a wait queue: first the senders of each data queue, then the receivers, then the waiters of each mailbox.
abbrev pub chain_number : WaitQueue → ℕ
chain_number (senders_of q) = q
chain_number (receivers_of q) = 16 + q
chain_number (waiters_of b) = 32 + b

-- The chain that a wait names, 0 for none.
abbrev pub wait_chain : Wait → ℕ
wait_chain w = Option.get_or (map chain_number (wait_queue w)) 0

-- The tasks in a wait queue, and the messages in a mailbox: chain b is mailbox b's.
unfoldable pub tasks_in : List ℕ → WaitQueue → List ℕ
tasks_in link k = get_or (lists task_limit task_chains link) (chain_number k) []

unfoldable pub messages_in : List ℕ → ℕ → List ℕ
messages_in link b = get_or (lists message_limit message_chains link) b []
