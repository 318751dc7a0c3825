-- The priorities in a wait queue and in a queue of messages are the keys of its chain: whoever stands there is defined, and keeps a priority.
use mathlib.Core.Path.{◌≡◌, sym, ap, ◌∙◌, subst}
use mathlib.Core.Bool.{cond, false}
use mathlib.Core.List.{map, Memᴰ as In}
use mathlib.Core.Option.{some, none-ne-some}
use Prim.Native.Nat.{ℕ}
use lib.Dec.{T}
use lib.ListN.{get_or}
use Rattle.lists.specs.Lists.{StandsWhereNamed}
use Rattle.lists.proofs.Members.{map_same}
use Rattle.chain.specs.Table.{keys_of, Sound}
use Rattle.model.specs.Sizes.{task_limit, message_limit}
use Rattle.model.specs.Rows.{task, mailbox, message, valid, TaskRow, MessageRow, messages_by_priority}
use Rattle.model.specs.WellFormed.{TaskWellFormed}
use Rattle.model.specs.Waits.{WaitQueue, object_of, wait_queue}
use Rattle.model.specs.WaitQueues.{standing_in}
use Rattle.model.proofs.Choices.{cond_yes}
use Rattle.parts.specs.Chains.{task_chains, message_chains, tasks_in, messages_in}
use Rattle.parts.specs.Tasks.{task_row}
use Rattle.parts.specs.Mailboxes.{kept_attribute}
use Rattle.record.specs.declared.State.{State}
use Rattle.record.specs.Meaning.{task_at, mailbox_at, keeps_priorities, abs}
use Rattle.record.proofs.Rows.{passes_or_not, row_is}
use Rattle.record.proofs.Standing.{standing_is, messages_are, in_chain, in_mailbox}

-- Whoever waits is defined.
pub waits_defined : (s : State) (t : ℕ) (k : WaitQueue) → T (valid (task t)) → TaskWellFormed ((abs s).rows (task t)) → wait_queue ((abs s).rows (task t)).wait ≡ some k → T (task_at s t).defined
waits_defined s t k v r w =
    let row : TaskWellFormed (task_row (task_at s t) (get_or s.waiting.key t 0)) = rw (row_is s (task t) v) at r in
    let names : wait_queue (task_at s t).wait ≡ some k = sym (ap (λ (x : TaskRow). wait_queue x.wait) (row_is s (task t) v)) ∙ w in
    passes_or_not (task_at s t).defined (λ d. d) (λ n. absurd (none-ne-some k (sym (ap wait_queue (row.undefined n)) ∙ names)))

module _ (s : State) (H : Sound task_limit task_chains s.waiting.link) (tasks : (t : ℕ) → TaskWellFormed ((abs s).rows (task t)))
    (waiting : StandsWhereNamed (standing_in (abs s).rows) (λ t. wait_queue ((abs s).rows (task t)).wait)) where
  pub priorities_are : (k : WaitQueue) → T (valid (object_of k)) → map (λ t. ((abs s).rows (task t)).priority) (standing_in (abs s).rows k) ≡ keys_of s.waiting.key (tasks_in s.waiting.link k)
  unfolding keys_of
  priorities_are k v = map_same (λ t. ((abs s).rows (task t)).priority) (λ t. get_or s.waiting.key t 0) (standing_in (abs s).rows k) same ∙ ap (map (λ t. get_or s.waiting.key t 0)) (standing_is s k v)
    where
      same : (t : ℕ) → In t (standing_in (abs s).rows k) → ((abs s).rows (task t)).priority ≡ get_or s.waiting.key t 0
      same t i =
          let c = in_chain s H k i in
          ap (λ (x : TaskRow). x.priority) (row_is s (task t) c.1) ∙ cond_yes (task_at s t).defined _ _ (waits_defined s t k c.1 (tasks t) (waiting.no_other t k i))

-- Whatever is queued in a mailbox by priority keeps its priority.
module _ (s : State) (H : Sound message_limit message_chains s.messages.link) (b : ℕ) (v : T (valid (mailbox b))) (by_priority : T (messages_by_priority (kept_attribute (mailbox_at s b)))) where
  keeps : T (keeps_priorities s.mailboxes b)
  keeps = subst T (sym (cond_yes (valid (mailbox b)) _ false v)) by_priority

  pub kept_priorities_are : map (λ g. ((abs s).rows (message g)).priority) ((abs s).rows (mailbox b)).messages ≡ keys_of s.messages.key (messages_in s.messages.link b)
  unfolding keys_of
  kept_priorities_are = map_same (λ g. ((abs s).rows (message g)).priority) (λ g. get_or s.messages.key g 0) ((abs s).rows (mailbox b)).messages same ∙ ap (map (λ g. get_or s.messages.key g 0)) (messages_are s b v)
    where
      same : (g : ℕ) → In g ((abs s).rows (mailbox b)).messages → ((abs s).rows (message g)).priority ≡ get_or s.messages.key g 0
      same g i =
          let c = in_mailbox s H b i in
          ap (λ (x : MessageRow). x.priority) (row_is s (message g) c.1)
          ∙ (ap (λ n. cond (keeps_priorities s.mailboxes n) (get_or s.messages.key g 0) 0) c.0 ∙ cond_yes (keeps_priorities s.mailboxes b) _ _ keeps)
