-- What a call sees of a record, and the test whether the record is sound. A number that isn't valid shows nothing (model: `row_if_valid`). A task's
-- priority isn't looked at.
use Rattle.std.specs.Prelude.{◌≡◌, Bool, true, List, ℕ, Option, MatchOption, get_or}
use Rattle.lists.specs.Tests.{Whether}
use Rattle.chain.specs.Table.{lists, chain_of}
use Rattle.chain.specs.Table as chain
use Rattle.errors.specs.Seen.{ShowsTask, SeenFor}
use Rattle.errors.specs.declared.TaskSeen.{TaskSeen}
use Rattle.errors.specs.declared.Seen.{Seen}
use Rattle.model.specs.Sizes.{task_limit, message_limit}
use Rattle.model.specs.declared.Call.{Call}
use Rattle.model.specs.Rows.{TaskRow}
use Rattle.parts.specs.Chains.{task_chains, message_chains}
use Rattle.parts.specs.Queues.{QueueTestable, QueueSound}
use Rattle.parts.specs.Mailboxes.{MailboxTestable, MailboxSound}
use Rattle.record.specs.declared.State.{State}
use Rattle.record.specs.Meaning.{queue_at, mailbox_at, abs}
use Rattle.record.specs.Sound.{Sound}

pub record TaskShown (x : TaskRow) (is_suspended : Bool) (y : TaskSeen) : Type 0 where
  pub shows : ShowsTask x y
  pub suspended : y.suspended ≡ is_suspended

-- The answer says whether both tables are sound. Where they are, `standing` has for each task the chain that it stands in.
pub record ChainsTested (link messages standing : List ℕ) (answer : Bool) : Type 0 where
  pub exact : Whether (chain.Sound task_limit task_chains link × chain.Sound message_limit message_chains messages) answer
  pub standing_is : answer ≡ true → (t : ℕ) → get_or standing t 0 ≡ chain_of t (lists task_limit task_chains link)

-- What the test of a data queue and a mailbox of one number asks, and what it decides.
abbrev pub ObjectsTestable : State → ℕ → Type 0
ObjectsTestable s n = QueueTestable n s.waiting.link s.waiting.key × MailboxTestable n s.waiting.link s.waiting.key s.messages.link s.messages.key

abbrev pub ObjectsSound : State → ℕ → Type 0
ObjectsSound s n = QueueSound (queue_at s n) s.waiting.link s.waiting.key n
    × MailboxSound (mailbox_at s n) s.waiting.link s.waiting.key s.messages.link s.messages.key n

-- Nothing where the record isn't sound; where it is, all that the call sees of it.
abbrev pub SeenWhere : State → Call → Option Seen → Type 0
SeenWhere s c r = MatchOption r (Sound s → ⊥) (λ y. Sound s × SeenFor (abs s) c y)
