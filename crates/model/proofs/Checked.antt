-- What an accepted call says of its fields and of the rows in view: read off the error table.
use mathlib.Core.Path.{◌≡◌, refl}
use mathlib.Core.Bool.{not, ◌&&◌, ◌||◌}
use Prim.Native.Nat.{ℕ, ◌≤◌, ◌<◌}
use native.Mathlib.Omega.{arith}
use lib.Dec.{T, eqb, ltb, nltb→le}
use lib.IntN.{ℤ, pos, negsuc}
use lib.Signed.{lt_z}
use mir.Facts.{T_not-not, yes_and}
use Rattle.lists.specs.Lists.{empty}
use Rattle.model.specs.Sizes.{task_limit, capacity_limit, priority_limit, tmout_limit, counter_span, within}
use Rattle.model.specs.Rows.{messages_by_priority}
use Rattle.model.specs.Calls.{Call, View, creates, has_tmout, names_message, capacity_of, task_priority_of, highest_of, message_priority_of, task_only}
use Rattle.model.specs.Waits.{Wait, NoWait, Sending, Receiving, AtMailbox, able, end_of}
use Rattle.model.specs.Errors.{caller_cannot_call, called_by_handler, tmout_outside, attribute_outside, capacity_outside, task_priority_outside, highest_outside, exists, missing, message_priority_outside, wrong_state, nothing_to_drop}
use Rattle.model.specs.WellFormed.{EndAhead}
use Rattle.model.proofs.Tests.{from_within, neither_left, neither_right, not_both, not_both_left}
use Rattle.model.proofs.Accepted.{Passes}

between : (low high n : ℕ) → T (not (not (within low high n))) → (low ≤ n) × (n ≤ high)
between low high n t = from_within low high n (T_not-not (within low high n) t)

able_no_wait : (x : Wait) → T (able x) → x ≡ NoWait
able_no_wait NoWait t = refl
able_no_wait (Sending q end word) t = absurd t
able_no_wait (Receiving q end) t = absurd t
able_no_wait (AtMailbox b end) t = absurd t

-- The end of a wait that starts now, with a tmout that isn't too large, is ahead and not too far.
end_ahead : (counter : ℕ) (tmout : ℤ) → counter < counter_span → T (not (lt_z (pos tmout_limit) tmout)) → EndAhead counter (end_of counter tmout)
unfolding end_of
end_ahead counter (pos n) inside low =
    let above = nltb→le tmout_limit n low in
    record { in_range = omega arith; not_sooner = omega arith; not_later = omega arith }
end_ahead counter (negsuc n) inside low = tt

module _ {v : View} {c : Call} (p : Passes v c) where
  -- ── The fields ──

  pub queue_attribute : T (eqb c.number 2) → c.attribute ≤ 1
  unfolding attribute_outside
  queue_attribute h = (between 0 1 c.attribute (not_both (eqb c.number 2) (not (within 0 1 c.attribute)) (search (p.step_4, neither_left, neither_right)) h)).1

  pub queue_capacity : T (eqb c.number 2) → capacity_of c ≤ capacity_limit
  unfolding capacity_outside
  queue_capacity h = nltb→le capacity_limit (capacity_of c) (not_both (eqb c.number 2) (ltb capacity_limit (capacity_of c)) (search (p.step_4, neither_left, neither_right)) h)

  pub mailbox_attribute : T (eqb c.number 12) → c.attribute ≤ 3
  unfolding attribute_outside
  mailbox_attribute h = (between 0 3 c.attribute (not_both (eqb c.number 12) (not (within 0 3 c.attribute)) (search (p.step_4, neither_left, neither_right) depth 7) h)).1

  pub mailbox_highest : T (eqb c.number 12) → T (messages_by_priority c.attribute) → (1 ≤ highest_of c) × (highest_of c ≤ priority_limit)
  unfolding highest_outside
  mailbox_highest h k =
      let outside = not (within 1 priority_limit (highest_of c)) in
      between 1 priority_limit (highest_of c)
      (not_both (eqb c.number 12 && messages_by_priority c.attribute) outside (search (p.step_4, neither_left, neither_right)) (yes_and (eqb c.number 12) (messages_by_priority c.attribute) h k))

  pub task_priority : T (eqb c.number 1) → (1 ≤ task_priority_of c) × (task_priority_of c ≤ priority_limit)
  unfolding task_priority_outside
  task_priority h = between 1 priority_limit (task_priority_of c)
      (not_both (eqb c.number 1) (not (within 1 priority_limit (task_priority_of c))) (search (p.step_4, neither_left, neither_right)) h)

  -- ── The rows in view ──

  pub exists_not : T (creates c) → T (not (exists v c))
  unfolding wrong_state
  exists_not h = not_both (creates c) (exists v c) (search (p.step_6b, neither_left)) h

  pub exists_already : T (not (creates c)) → T (exists v c)
  unfolding missing
  exists_already h = T_not-not (exists v c) (not_both (not (creates c)) (not (exists v c)) p.step_5 h)

  -- A call of a task alone has a caller that can call.
  caller_fits : T (task_only c) → T (not (ltb task_limit c.caller || not v.caller.row.defined || not (able v.caller.row.wait) || v.caller.suspended))
  unfolding caller_cannot_call called_by_handler
  caller_fits h = not_both (not (eqb c.caller 0)) (ltb task_limit c.caller || not v.caller.row.defined || not (able v.caller.row.wait) || v.caller.suspended) p.step_1
      (not_both_left (eqb c.caller 0) (task_only c) (search (p.step_2, neither_left, neither_right)) h)

  pub caller_defined : T (task_only c) → T v.caller.row.defined
  caller_defined h = T_not-not v.caller.row.defined (let fit = caller_fits h in search (fit, neither_left, neither_right))

  pub caller_able : T (task_only c) → v.caller.row.wait ≡ NoWait
  caller_able h = able_no_wait v.caller.row.wait (T_not-not (able v.caller.row.wait) (let fit = caller_fits h in search (fit, neither_left, neither_right)))

  pub message_priority : T (names_message c) → T (messages_by_priority v.the_mailbox.attribute) → (1 ≤ message_priority_of c) × (message_priority_of c ≤ v.the_mailbox.highest)
  unfolding message_priority_outside
  message_priority h k =
      let outside = not (within 1 v.the_mailbox.highest (message_priority_of c)) in
      between 1 v.the_mailbox.highest (message_priority_of c)
      (not_both (names_message c && messages_by_priority v.the_mailbox.attribute) outside p.step_6a (yes_and (names_message c) (messages_by_priority v.the_mailbox.attribute) h k))

  pub message_free : T (names_message c) → T (eqb v.the_message.queued_in 0)
  unfolding wrong_state
  message_free h = T_not-not (eqb v.the_message.queued_in 0) (not_both (names_message c) (not (eqb v.the_message.queued_in 0)) (search (p.step_6b, neither_left, neither_right)) h)

  pub task_waits : T (eqb c.number 19) → T (not (able v.the_task.wait))
  unfolding wrong_state
  task_waits h = not_both (eqb c.number 19) (able v.the_task.wait) (search (p.step_6b, neither_left, neither_right)) h

  pub something_to_drop : T (eqb c.number 7) → T (empty v.the_queue.receivers) → T (not (eqb v.the_queue.capacity 0))
  unfolding nothing_to_drop
  something_to_drop h k =
      not_both (eqb c.number 7) (eqb v.the_queue.capacity 0)
      (not_both_left (eqb c.number 7 && eqb v.the_queue.capacity 0) (empty v.the_queue.receivers) p.step_6d k) h

  not_too_large : T (has_tmout c) → T (not (lt_z (pos tmout_limit) c.tmout))
  unfolding tmout_outside
  not_too_large h =
      neither_right (lt_z c.tmout (negsuc 0)) (lt_z (pos tmout_limit) c.tmout)
      (not_both (has_tmout c) (lt_z c.tmout (negsuc 0) || lt_z (pos tmout_limit) c.tmout) (search (p.step_4, neither_left, neither_right)) h)

  pub tmout_size : T (has_tmout c) → (n : ℕ) → c.tmout ≡ pos n → n ≤ tmout_limit
  tmout_size h n e = nltb→le tmout_limit n (rw e at (not_too_large h))

  pub wait_ends : (counter : ℕ) → counter < counter_span → T (has_tmout c) → EndAhead counter (end_of counter c.tmout)
  wait_ends counter inside h = end_ahead counter c.tmout inside (not_too_large h)
