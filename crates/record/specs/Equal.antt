-- Document 01, "A sound record": when two states are equal, said of the records themselves. Nothing else counts, as the comment on what is free says
-- (Meaning.antt).
use Rattle.std.specs.Prelude.{◌≡◌, ◌↔◌, ℕ, T, get_or}
use Rattle.ring.specs.Ring.{stored}
use Rattle.model.specs.Rows.{task, queue, mailbox, message, valid, messages_by_priority}
use Rattle.model.specs.Waits.{WaitQueue, object_of}
use Rattle.parts.specs.Chains.{tasks_in, messages_in}
use Rattle.parts.specs.Queues.{is_defined}
use Rattle.parts.specs.declared.Task.{Task}
use Rattle.parts.specs.declared.Queue.{Queue}
use Rattle.parts.specs.declared.Mailbox.{Mailbox}
use Rattle.record.specs.declared.State.{State}
use Rattle.record.specs.Meaning.{task_at, queue_at, mailbox_at, mailbox_of, keeps_priorities, abs}
use Rattle.record.specs.Sound.{Sound}

-- Two tasks, with their priorities: whether they exist, and if they do, the priority, the wait with what belongs to it, the suspension and the stored pair.
pub record SameTask (x y : Task) (x_priority y_priority : ℕ) : Type 0 where
  pub existence : x.defined ≡ y.defined
  pub priority : T x.defined → x_priority ≡ y_priority
  pub wait : T x.defined → x.wait ≡ y.wait
  pub suspension : T x.defined → x.suspended ≡ y.suspended
  pub stored_code : T x.defined → x.code ≡ y.code
  pub stored_word : T x.defined → x.word ≡ y.word

-- Two data queues: whether they exist, and if they do, attribute and capacity; and the stored words in order.
pub record SameQueue (x y : Queue) : Type 0 where
  pub existence : is_defined x.defined ≡ is_defined y.defined
  pub attribute : T (is_defined x.defined) → x.attribute ≡ y.attribute
  pub capacity : T (is_defined x.defined) → x.ring.capacity ≡ y.ring.capacity
  pub words : stored x.ring ≡ stored y.ring

-- Two mailboxes: whether they exist, and if they do, the attribute and, with attribute 2 or 3, the highest message priority.
pub record SameMailbox (x y : Mailbox) : Type 0 where
  pub existence : is_defined x.defined ≡ is_defined y.defined
  pub attribute : T (is_defined x.defined) → x.attribute ≡ y.attribute
  pub highest : T (is_defined x.defined) → T (messages_by_priority x.attribute) → x.highest ≡ y.highest

pub record SameState (s u : State) : Type 0 where
  pub counter : s.counter ≡ u.counter
  pub tasks : (t : ℕ) → T (valid (task t)) → SameTask (task_at s t) (task_at u t) (get_or s.waiting.key t 0) (get_or u.waiting.key t 0)
  pub queues : (q : ℕ) → T (valid (queue q)) → SameQueue (queue_at s q) (queue_at u q)
  pub mailboxes : (b : ℕ) → T (valid (mailbox b)) → SameMailbox (mailbox_at s b) (mailbox_at u b)
  -- Each chain in order.
  pub wait_queues : (k : WaitQueue) → T (valid (object_of k)) → tasks_in s.waiting.link k ≡ tasks_in u.waiting.link k
  pub message_queues : (b : ℕ) → T (valid (mailbox b)) → messages_in s.messages.link b ≡ messages_in u.messages.link b
  -- The priorities kept with queued messages.
  pub kept_priorities : (g : ℕ) → T (valid (message g)) → T (keeps_priorities s.mailboxes (mailbox_of s.messages.link g))
      → get_or s.messages.key g 0 ≡ get_or u.messages.key g 0

-- Two sound records are equal states exactly when they mean the same.
abbrev pub EqualStates : Type 0
EqualStates = (s u : State) → Sound s → Sound u → SameState s u ↔ (abs s ≡ abs u)
