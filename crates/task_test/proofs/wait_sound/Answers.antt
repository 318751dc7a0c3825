-- `wait_sound` is exact: by the cases of the wait, of which three name an object.
use Rattle.std.proofs.Common.{refl, arith}
use Rattle.lists.proofs.Tests.{is_and, is_eqb}
use Rattle.task_test.proofs.Tasks.{waits_at, waits_not}
use Rattle.task_test.proofs.wait_sound.Goals as goal

pub returns-in-NoWait : goal.returns-in-NoWait
returns-in-NoWait c = waits_not c.in-NoWait.is (is_eqb _ _)

pub returns-in-Sending : goal.returns-in-Sending
returns-in-Sending c = waits_at _ 0 _ c.in-Sending.is (omega arith) refl (is_and c.names_chain.ensures c.end_sound.ensures)

pub returns-in-Receiving : goal.returns-in-Receiving
returns-in-Receiving c = waits_at _ 16 _ c.in-Receiving.is refl refl (is_and c.names_chain-in-Receiving.ensures c.end_sound-in-Receiving.ensures)

pub returns-in-AtMailbox : goal.returns-in-AtMailbox
returns-in-AtMailbox c = waits_at _ 32 _ c.in-AtMailbox.is refl refl (is_and c.names_chain-in-AtMailbox.ensures c.end_sound-in-AtMailbox.ensures)
