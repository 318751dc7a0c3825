-- What the test of a record has found so far, loop by loop, and that it comes to the record's parts.
use mathlib.Core.Path.{◌≡◌, sym, subst}
use Prim.Native.Nat.{ℕ, ◌+◌, ◌<◌, ◌≤◌}
use native.Mathlib.Omega.{arith}
use native.Mathlib.Decide.{ℕ_discrete}
use lib.ListN.{get_or}
use mathlib.Core.Bool.{Bool}
use mathlib.Core.List.{List}
use Rattle.lists.specs.Tests.{Whether}
use Rattle.chain.specs.Table.{chain_of}
use Rattle.chain.specs.Table as chain
use Rattle.model.specs.Sizes.{task_limit, queue_limit, mailbox_limit, message_limit, counter_span}
use Rattle.parts.specs.Chains.{task_chains, message_chains}
use Rattle.parts.specs.Tasks.{TaskSound}
use Rattle.parts.specs.Queues.{QueueTestable}
use Rattle.parts.specs.Mailboxes.{MailboxTestable}
use Rattle.model.proofs.Tests.{from_within}
use Rattle.record.specs.declared.State.{State}
use Rattle.record.specs.Meaning.{task_at}
use Rattle.record.specs.Sound.{Sizes}
use Rattle.record.proofs.Standing.{task_lists}
use Rattle.record.proofs.Parts.{TaskAt, QueueAt, MailboxAt, Parts}

-- P holds of every number from 1 on and below a limit.
pub record Below (P : ℕ → Type 0) (limit : ℕ) : Type 0 where
  pub each : (i : ℕ) → 1 ≤ i → i < limit → P i

pub below_none : {P : ℕ → Type 0} → Below P 1
below_none = record { each = λ i low high. absurd (omega arith) }

pub below_more : {P : ℕ → Type 0} {n : ℕ} → Below P n → P n → Below P (n + 1)
below_more {P} {n} f p = record { each = λ i low high. go i low high (ℕ_discrete i n) }
  where
    go : (i : ℕ) → 1 ≤ i → i < n + 1 → Dec (i ≡ n) → P i
    go i low high (yes e) = subst P (sym e) p
    go i low high (no d) = f.each i low (omega arith)

-- Both tables were walked, and are sound.
pub record Walked (s : State) : Type 0 where
  pub sizes : Sizes s
  pub counter : s.counter < counter_span
  pub waiting : chain.Sound task_limit task_chains s.waiting.link
  pub messages : chain.Sound message_limit message_chains s.messages.link

-- The walk over the tasks' table left for each task the chain that it stands in.
pub record Marked (s : State) (standing : List ℕ) : Type 0 where
  pub marks_are : (t : ℕ) → get_or standing t 0 ≡ chain_of t (task_lists s)

-- The tests of an object may be called.
pub queue_testable : {s : State} {q : ℕ} → Walked s → 1 ≤ q → q < 17 → QueueTestable q s.waiting.link s.waiting.key
queue_testable w low high = record { low = low; high = omega arith; table = w.waiting; keys_count = w.sizes.task_keys }

pub mailbox_testable : {s : State} {b : ℕ} → Walked s → 1 ≤ b → b < 17 → MailboxTestable b s.waiting.link s.waiting.key s.messages.link s.messages.key
mailbox_testable w low high =
    record { low = low; high = omega arith; tasks_table = w.waiting; keys_count = w.sizes.task_keys; messages_table = w.messages; message_keys_count = w.sizes.message_keys }

-- The test of task t, handed its priority and the chain that the walk left for it.
pub task_tested : {s : State} {standing : List ℕ} {priority : ℕ} {answer : Bool} (t : ℕ) → Marked s standing → priority ≡ get_or s.waiting.key t 0
    → Whether (TaskSound s.counter priority (get_or standing t 0) (task_at s t)) answer → Whether (TaskAt s t) answer
task_tested t m e w = rw (e, m.marks_are t) at w

pub tested_parts : {s : State} → Walked s → Below (TaskAt s) 33 → Below (λ n. QueueAt s n × MailboxAt s n) 17 → Parts s
tested_parts w f g = record {
  sizes = w.sizes;
  counter = w.counter;
  waiting = w.waiting;
  messages = w.messages;
  tasks = λ t v. let r = from_within 1 task_limit t v in f.each t r.0 (omega arith);
  queues = λ q v. let r = from_within 1 queue_limit q v in (g.each q r.0 (omega arith)).0;
  mailboxes = λ b v. let r = from_within 1 mailbox_limit b v in (g.each b r.0 (omega arith)).1;
}
