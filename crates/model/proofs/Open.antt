-- Opens the whole definition, for what is shown by computing it: `unfolding everything`.
use native.Mathlib.Decide.{ℕ_discrete}
use mathlib.Core.List.{head_d}
use Rattle.lists.specs.Lists.{empty, insert_at, remove_at, ahead, without, passed, one_of, ascending}
use Rattle.rows.specs.Program.{get_each, run_first, update, run, step_of}
use Rattle.rows.specs.Runs.{end, answers}
use Rattle.model.specs.Rows.{same_key}
use Rattle.model.specs.Waits.{end_of}
use Rattle.model.specs.Calls.{read_if_valid, see_caller, see_named}
use Rattle.model.specs.Errors.{unknown, caller_cannot_call, called_while_locked, called_by_handler, suspends_itself, called_while_disabled, number_outside, tmout_outside, attribute_outside, capacity_outside, task_priority_outside, message_outside, highest_outside, exists, missing, message_priority_outside, wrong_state, suspended_already, nothing_to_drop, polls, would_wait, rows_to_step_4, rows_from_step_5, some_applies, first_that_applies, unless_refused}
use Rattle.model.specs.WaitQueues.{place, release, leave_queue, end_wait, end_waits}
use Rattle.model.specs.DataQueues.{deliver, store, replace_oldest, wait_to_send, send, take_oldest, take_oldest_and_refill, take_from_sender, wait_to_receive, receive}
use Rattle.model.specs.Mailboxes.{free_messages, deliver_message, queue_message, take_message, wait_for_message, send_message, receive_message}
use Rattle.model.specs.Tasks.{expire, tick}
use Rattle.model.specs.Step.{effects, effect, program, call, step}

unfoldable pub everything : Unit {0}
unfolding ℕ_discrete head_d empty insert_at remove_at ahead without passed one_of ascending get_each run_first update run step_of end answers same_key end_of read_if_valid see_caller see_named unknown caller_cannot_call called_while_locked called_by_handler suspends_itself called_while_disabled number_outside tmout_outside attribute_outside capacity_outside task_priority_outside message_outside highest_outside exists missing message_priority_outside wrong_state suspended_already nothing_to_drop polls would_wait rows_to_step_4 rows_from_step_5 some_applies first_that_applies unless_refused place release leave_queue end_wait end_waits deliver store replace_oldest wait_to_send send take_oldest take_oldest_and_refill take_from_sender wait_to_receive receive free_messages deliver_message queue_message take_message wait_for_message send_message receive_message expire tick effects effect program call step
everything = tt
