-- The error table's first rows, test by test: by its definition.
use mathlib.Core.Path.{◌≡◌, refl}
use mathlib.Core.Bool.{◌||◌, cond}
use Rattle.model.specs.declared.Call.{Call}
use Rattle.model.specs.declared.Code.TheVariants.{Sys, Par, Id, Ctx}
use Rattle.model.specs.Calls.{View}
use Rattle.model.specs.Errors.{unknown, caller_cannot_call, called_while_locked, called_by_handler, called_while_disabled, number_outside}
use Rattle.model.specs.Errors.{tmout_outside, attribute_outside, capacity_outside, task_priority_outside, message_outside, highest_outside}
use Rattle.model.specs.Errors.{rows_to_step_4, rows_from_step_5, error_table, first_that_applies, refusal}

pub by_row : (v : View) (c : Call) → refusal v c
    ≡ cond (unknown c) Par
    (cond (caller_cannot_call v.caller c) Sys
    (cond (called_while_locked c || called_by_handler c || called_while_disabled c) Ctx
    (cond (number_outside c) Id
    (cond (tmout_outside c || attribute_outside c || capacity_outside c || task_priority_outside c || message_outside c || highest_outside c) Par
    (first_that_applies (rows_from_step_5 v c))))))
unfolding rows_to_step_4 error_table first_that_applies refusal
by_row v c = refl
