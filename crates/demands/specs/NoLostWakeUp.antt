-- For customers: in no record that calls and ticks reach from a sound one does a task wait for what is there.
use Rattle.std.specs.Prelude.{◌≡◌, ℕ, length}
use mathlib.Core.List.{List, [], Memᴰ as In}
use Rattle.rows.specs.Runs.{Run}
use Rattle.rows.specs.Program as Program
use Rattle.model.specs.Rows.{task, queue, mailbox, Row}
use Rattle.model.specs.Engine.{Engine}
use Rattle.model.specs.declared.End.{End}
use Rattle.model.specs.declared.Wait.TheVariants.{Sending, Receiving, AtMailbox}
use Rattle.demands.specs.Runs.{Interface}

pub record NobodyWaitsForWhatIsThere (m : Program.Rows Row) : Type 0 where
  -- At a queue where a receiver stands there is no word and no sender.
  pub receivers : (t q : ℕ) → In t (m (queue q)).receivers → ((m (queue q)).words ≡ []) × ((m (queue q)).senders ≡ [])
  -- At a queue where a sender stands there is no room and no receiver.
  pub senders : (t q : ℕ) → In t (m (queue q)).senders → (length (m (queue q)).words ≡ (m (queue q)).capacity) × ((m (queue q)).receivers ≡ [])
  -- At a mailbox where a task stands there is no message.
  pub waiters : (t b : ℕ) → In t (m (mailbox b)).waiters → (m (mailbox b)).messages ≡ []
  -- And whoever waits stands where the next call that can serve it looks.
  pub receiver_stands : (t q : ℕ) (end : End) → (m (task t)).wait ≡ Receiving q end → In t (m (queue q)).receivers
  pub sender_stands : (t q : ℕ) (end : End) (word : ℕ) → (m (task t)).wait ≡ Sending q end word → In t (m (queue q)).senders
  pub waiter_stands : (t b : ℕ) (end : End) → (m (task t)).wait ≡ AtMailbox b end → In t (m (mailbox b)).waiters

-- Any list of calls and ticks.
abbrev pub NoLostWakeUp : {S C A : Type 0} → Engine S → Interface S C A → Type 0
NoLostWakeUp {S} {C} {A} E F =
    (s : S) → E.Sound s → (calls : List C) (last : S) (answers : List A) → Run F.Steps s calls last answers
    → NobodyWaitsForWhatIsThere (E.abs last).rows
