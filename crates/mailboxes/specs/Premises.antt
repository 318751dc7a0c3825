-- Document 01, "Mailboxes" and the error table: what the changes of a mailbox ask of the record. The error table has refused the calls that would break it.
use Rattle.std.specs.Prelude.{◌≡◌, not, ℕ, ◌≤◌, T, eqb}
use Rattle.lists.specs.Lists.{empty}
use Rattle.model.specs.Rows.{mailbox, message, valid, MailboxRow, messages_by_priority}
use Rattle.record.specs.declared.State.{State}
use Rattle.record.specs.Meaning.{abs}
use Rattle.record.specs.Sound.{Sound}

-- A mailbox's row.
abbrev pub mailbox_in : State → ℕ → MailboxRow
mailbox_in s b = (abs s).rows (mailbox b)

-- A sound record, and a mailbox that isn't defined. The highest message priority is kept with attribute 2 or 3 alone, so else it is 0.
pub record Creatable (s : State) (b attribute highest : ℕ) : Type 0 where
  pub sound : Sound s
  pub valid_mailbox : T (valid (mailbox b))
  pub undefined : T (not (mailbox_in s b).defined)
  pub highest_kept : T (not (messages_by_priority attribute)) → highest ≡ 0

-- A sound record, and a mailbox that is defined.
pub record OnMailbox (s : State) (b : ℕ) : Type 0 where
  pub sound : Sound s
  pub defined : T (mailbox_in s b).defined

-- A task waits at it.
pub record Deliverable (s : State) (b : ℕ) : Type 0 where
  pub on : OnMailbox s b
  pub someone : T (not (empty (mailbox_in s b).waiters))

-- The message is free. By priority, its priority is no larger than the mailbox's highest.
pub record Queueable (s : State) (b g priority : ℕ) : Type 0 where
  pub on : OnMailbox s b
  pub valid_message : T (valid (message g))
  pub is_free : T (eqb ((abs s).rows (message g)).queued_in 0)
  pub in_range : T (messages_by_priority (mailbox_in s b).attribute) → priority ≤ (mailbox_in s b).highest

-- A message is queued in it.
pub record Takeable (s : State) (b : ℕ) : Type 0 where
  pub on : OnMailbox s b
  pub something : T (not (empty (mailbox_in s b).messages))
