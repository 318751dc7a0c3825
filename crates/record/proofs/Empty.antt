-- A record in which nothing is defined and no number stands in a chain is sound and means the empty state: cell by cell.
use mathlib.Core.Path.{◌≡◌, refl, sym, ap, subst, fun_ext}
use mathlib.Core.List.Memᴰ
use mathlib.Core.List.{[]}
use Prim.Native.Nat.{ℕ, suc, zero-le}
use native.Mathlib.Omega.{arith}
use lib.Dec.{T}
use lib.ListN.{replicate, get_or-replicate}
use Rattle.lists.specs.Lists.{one_of}
use Rattle.lists.proofs.Reading.{all_same}
use Rattle.chain.specs.Table.{lists}
use Rattle.chain.specs.Changes.{New}
use Rattle.chain.proofs.Standing.{stands_nowhere}
use Rattle.ring.specs.Ring.{NoWordStored}
use Rattle.ring.specs.declared.Ring.{Ring}
use Rattle.model.specs.Sizes.{task_limit, queue_limit, message_limit}
use Rattle.model.specs.Rows.{Key, task, suspension, queue, mailbox, message, valid, nothing, empty_state}
use Rattle.model.specs.WellFormed.{WellFormed}
use Rattle.model.specs.Waits.{WaitQueue, senders_of, receivers_of}
use Rattle.model.proofs.WellFormed.{empty_well_formed}
use Rattle.parts.specs.Chains.{task_chains, message_chains, chain_number, tasks_in, messages_in}
use Rattle.parts.specs.declared.Task.{Task}
use Rattle.parts.specs.Tasks.{read_code}
use Rattle.parts.specs.declared.Queue.{Queue}
use Rattle.model.proofs.Tests.{from_within}
use Rattle.record.specs.declared.State.{State}
use Rattle.record.specs.Meaning.{zero_task, zero_mailbox, task_at, queue_at, mailbox_at, mailbox_of, cells_of, abs}
use Rattle.record.specs.Sound.{Sound}
use Rattle.record.proofs.Rows.{cond_cases}

-- A data queue that isn't defined, with this ring.
abbrev pub undefined_queue : Ring → Queue
undefined_queue r = record { ring = r; defined = 0; attribute = 0; spare = 0 }

pub record Blank (r : Ring) (s : State) : Type 0 where
  pub counter : s.counter ≡ 0
  pub tasks : s.tasks ≡ replicate 33 zero_task
  pub waiting : New s.waiting.link s.waiting.key
  pub queues : s.queues ≡ replicate 17 (undefined_queue r)
  pub mailboxes : s.mailboxes ≡ replicate 17 zero_mailbox
  pub messages : New s.messages.link s.messages.key

module _ (s : State) (r : Ring) (empty : NoWordStored 0 r) (b : Blank r s) where
  no_tasks_in : (k : WaitQueue) → tasks_in s.waiting.link k ≡ []
  unfolding tasks_in
  no_tasks_in k = rw (b.waiting.lists_are task_limit task_chains (omega arith) (omega arith)) (all_same [] (suc task_chains) (chain_number k))

  no_messages_in : (x : ℕ) → messages_in s.messages.link x ≡ []
  unfolding messages_in
  no_messages_in x = rw (b.messages.lists_are message_limit message_chains (omega arith) (omega arith)) (all_same [] (suc message_chains) x)

  in_no_mailbox : (g : ℕ) → mailbox_of s.messages.link g ≡ 0
  unfolding mailbox_of messages_in
  in_no_mailbox g = stands_nowhere g (lists message_limit message_chains s.messages.link) (λ x i. Memᴰ.not-nil (rw (no_messages_in x) at i))

  no_task : (t : ℕ) → task_at s t ≡ zero_task
  no_task t = rw b.tasks (all_same zero_task 33 t)

  no_queue : (q : ℕ) → T (valid (queue q)) → queue_at s q ≡ undefined_queue r
  no_queue q v = let range = from_within 1 queue_limit q v in rw b.queues (get_or-replicate 17 q (undefined_queue r) _ (omega arith))

  no_mailbox : (x : ℕ) → mailbox_at s x ≡ zero_mailbox
  no_mailbox x = rw b.mailboxes (all_same zero_mailbox 17 x)

  cells_blank : (k : Key) → T (valid k) → cells_of s k ≡ nothing k
  unfolding one_of read_code
  cells_blank (task t) v = rw (no_task t) refl
  cells_blank (suspension t) v = ap (λ (x : Task). x.suspended) (no_task t)
  cells_blank (queue q) v = cc (no_queue q v, no_tasks_in (senders_of q), no_tasks_in (receivers_of q), empty.words_are)
  cells_blank (mailbox x) v = rw (no_mailbox x, no_tasks_in, no_messages_in) refl
  cells_blank (message g) v = rw (in_no_mailbox g, cells_of) refl

  pub blank_means : abs s ≡ empty_state 0
  unfolding abs
  blank_means = cc (b.counter, fun_ext (λ k. cond_cases (λ x. x ≡ nothing k) (valid k) (cells_blank k) (λ n. refl)))

  pub blank_sound : Sound s
  blank_sound = record {
    readable = record {
      sizes = record {
        tasks = rw b.tasks refl;
        queues = rw b.queues refl;
        mailboxes = rw b.mailboxes refl;
        task_keys = rw b.waiting.keys_are refl;
        message_keys = rw b.messages.keys_are refl;
      };
      waiting = b.waiting.sound task_limit task_chains (omega arith) (omega arith);
      messages = b.messages.sound message_limit message_chains (omega arith) (omega arith);
      queues = λ q v. rw (no_queue q v) (record { flag = zero-le; ring = λ d. empty.kept.in_range });
      mailboxes = λ x v. rw (no_mailbox x) zero-le;
    };
    well_formed = subst WellFormed (sym blank_means) (empty_well_formed 0 (omega arith));
  }
