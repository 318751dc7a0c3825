-- Document 01, "Error numbers and their order", the paragraph on answers: which calls answer "waits", and which places they give.
use Rattle.std.specs.Prelude.{◌≡◌, Bool, true, false, not, ◌&&◌, ℕ, ◌<◌, T}
use Rattle.model.specs.Sizes.{task_limit, message_limit}
use Rattle.model.specs.Rows.{Model}
use Rattle.model.specs.Calls.{Call, may_wait, names_message, view_of}
use Rattle.model.specs.Errors.{refused, polls, would_wait}
use Rattle.model.specs.Step.{step}
use Rattle.model.specs.WellFormed.{WellFormed}
use Rattle.model.specs.declared.Outcome.{Outcome}
use Rattle.model.specs.declared.Outcome.TheVariants.{Finished, Waits}

-- The answer is "waits".
abbrev pub is_wait : Outcome → Bool
is_wait (Finished code) = false
is_wait (Waits place) = true

-- For every model, and for the tick too: a call waits exactly where it is one of the six that may wait, no row of the error table refuses it, and it would
-- have to wait.
abbrev pub WaitsExactly : Type 0
WaitsExactly =
    (m : Model) (c : Call)
    → is_wait (step m c).answer.outcome ≡ (may_wait c && not (refused (view_of m c) c) && would_wait (view_of m c) c)

-- So a poll, or a tmout of 0, never starts a wait: where it would have to wait, step 7 refuses it.
abbrev pub PollsNeverWait : Type 0
PollsNeverWait = (m : Model) (c : Call) → T (polls c) → is_wait (step m c).answer.outcome ≡ false

pub record PlacesAre (m : Model) (c : Call) : Type 0 where
  -- "Place is the number of waiters that stay ahead of it, 0 to 31".
  pub place_below : (place : ℕ) → (step m c).answer.outcome ≡ Waits place → place < task_limit
  -- "a is then the number of messages that stay ahead of it" (call 14): of the 64 messages, all but the one that is sent.
  pub messages_ahead_below : T (names_message c) → (step m c).answer.a < message_limit

abbrev pub PlacesInRange : Type 0
PlacesInRange = (m : Model) (c : Call) → WellFormed m → PlacesAre m c
