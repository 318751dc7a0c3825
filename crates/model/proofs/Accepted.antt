-- A call that no row of the error table refuses names valid numbers, so they lie where its names lie: read off the table.
use mathlib.Core.Bool.{Bool, true, false, not, ◌&&◌, ◌||◌, cond}
use Prim.Native.Nat.{ℕ}
use native.Mathlib.Nat.{pos_of_ne-zero}
use lib.Dec.{T, eqb, leb, ltb, le→leb, nltb→le}
use mir.Facts.{T_not-not, yes_and, eqb_no}
use Rattle.lists.specs.Lists.{Each, none, both, one_of}
use Rattle.model.specs.Sizes.{task_limit}
use Rattle.model.specs.Rows.{Key, task, suspension, queue, mailbox, message, valid}
use Rattle.model.specs.Calls.{Call, CallerView, View, names, names_task, reads_suspension, names_queue, names_mailbox, names_message, message_of, task_only}
use Rattle.model.specs.Waits.{able}
use Rattle.model.specs.Errors.{unknown, caller_cannot_call, called_while_locked, called_by_handler, called_while_disabled, number_outside, tmout_outside, attribute_outside, capacity_outside, task_priority_outside, message_outside, highest_outside, missing, message_priority_outside, wrong_state, suspended_already, nothing_to_drop, polls, would_wait, error_table, rows_to_step_4, rows_from_step_5, some_applies, refused}
use Rattle.model.proofs.Tests.{or_right, neither_left, neither_right, not_both, not_both_left}

-- Whoever reads a suspension names that task.
pub reads_named : (c : Call) → T (reads_suspension c) → T (names_task c)
unfolding one_of
reads_named c t = or_right (eqb n 1) _ (or_right (eqb n 19) _ (more (eqb n 20) (eqb n 21) (eqb n 22) t))
  where
    n : ℕ
    n = c.number

    more : (x y z : Bool) → T (x || (y || (z || false))) → T (x || (y || (z || (eqb n 23 || false))))
    more true y z t = tt
    more false true z t = tt
    more false false true t = tt
    more false false false t = absurd t

pub record Passes (v : View) (c : Call) : Type 0 where
  pub step_0 : T (not (unknown c))
  pub step_1 : T (not (caller_cannot_call v.caller c))
  pub step_2 : T (not (called_while_locked c || called_by_handler c || called_while_disabled c))
  pub step_3 : T (not (number_outside c))
  pub step_4 : T (not (tmout_outside c || attribute_outside c || capacity_outside c || task_priority_outside c || message_outside c || highest_outside c))
  pub step_5 : T (not (missing v c))
  pub step_6a : T (not (message_priority_outside v c))
  pub step_6b : T (not (wrong_state v c))
  pub step_6c : T (not (suspended_already v c))
  pub step_6d : T (not (nothing_to_drop v c))
  pub step_7 : T (not (polls c && would_wait v c))

pub passes : (v : View) (c : Call) → T (not (refused v c)) → Passes v c
unfolding refused error_table rows_to_step_4 rows_from_step_5 some_applies
passes v c t = record {
  step_0 = search (t, neither_left, neither_right) depth 14;
  step_1 = search (t, neither_left, neither_right) depth 14;
  step_2 = search (t, neither_left, neither_right) depth 14;
  step_3 = search (t, neither_left, neither_right) depth 14;
  step_4 = search (t, neither_left, neither_right) depth 14;
  step_5 = search (t, neither_left, neither_right) depth 14;
  step_6a = search (t, neither_left, neither_right) depth 14;
  step_6b = search (t, neither_left, neither_right) depth 14;
  step_6c = search (t, neither_left, neither_right) depth 14;
  step_6d = search (t, neither_left, neither_right) depth 14;
  step_7 = search (t, neither_left, neither_right) depth 14;
}

-- A number that is named and passes step 3 is valid, so it lies in S where the valid names do. The number named is n, or 0 where the call names none of that kind.
named : (S : Key → Type 0) (key : ℕ → Key) (is_named : Bool) (n : ℕ) → (T (valid (key (cond is_named n 0))) → S (key (cond is_named n 0)))
    → T (not (is_named && not (valid (key n)))) → T is_named → S (key n)
named S key true n own inside t = own (T_not-not (valid (key n)) inside)
named S key false n own inside t = absurd t

valid_caller : (n : ℕ) → T (not (eqb n 0)) → T (not (ltb task_limit n)) → T (valid (task n))
valid_caller n some below = yes_and (leb 1 n) (leb n task_limit) (le→leb 1 n (pos_of_ne-zero (eqb_no {a = n} some))) (le→leb n task_limit (nltb→le task_limit n below))

caller_below : (v : CallerView) (c : Call) → T (not (caller_cannot_call v c)) → T (not (eqb c.caller 0)) → T (not (ltb task_limit c.caller))
unfolding caller_cannot_call
caller_below v c able_to task_calls =
    let fit = not_both (not (eqb c.caller 0)) (ltb task_limit c.caller || not v.row.defined || not (able v.row.wait) || v.suspended) able_to task_calls in
    search (fit, neither_left)

-- What an accepted call uses lies in S.
pub record Accepted (S : Key → Type 0) (c : Call) : Type 0 where
  pub task_in : T (names_task c) → S (task c.object)
  pub suspension_in : T (names_task c) → S (suspension c.object)
  pub queue_in : T (names_queue c) → S (queue c.object)
  pub mailbox_in : T (names_mailbox c) → S (mailbox c.object)
  pub message_in : T (names_message c) → S (message (message_of c))
  pub caller_in : T (task_only c) → S (task c.caller)

pub accepted : (S : Key → Type 0) (v : View) (c : Call) → Each (λ k. T (valid k) → S k) (names c) → T (not (refused v c)) → Accepted S c
unfolding number_outside message_outside called_by_handler
accepted S v c (both me (both held (both t (both u (both q (both b (both g none))))))) ok =
    let p = passes v c ok in
    record {
      task_in = named S task (names_task c) c.object t (search (p.step_3, neither_left, neither_right));
      suspension_in = named S suspension (names_task c) c.object u (search (p.step_3, neither_left, neither_right));
      queue_in = named S queue (names_queue c) c.object q (search (p.step_3, neither_left, neither_right));
      mailbox_in = named S mailbox (names_mailbox c) c.object b (search (p.step_3, neither_left, neither_right));
      message_in = named S message (names_message c) (message_of c) g (search (p.step_4, neither_left, neither_right));
      caller_in = λ h.
          let task_calls : T (not (eqb c.caller 0)) = not_both_left (eqb c.caller 0) (task_only c) (search (p.step_2, neither_left, neither_right)) h in
          me (valid_caller c.caller task_calls (caller_below v.caller c p.step_1 task_calls));
    }
