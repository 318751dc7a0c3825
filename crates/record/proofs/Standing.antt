-- Where tasks and messages stand, read from the rows and from the tables of chains: each number stands in one chain at most.
use mathlib.Core.Path.{◌≡◌, refl, sym, ap, ◌∙◌}
use mathlib.Core.Bool.{Bool, cond}
use mathlib.Core.List.Memᴰ
use mathlib.Core.List.{List, [], Memᴰ as In}
use mathlib.Core.Option.{none, some, none-ne-some, some-injective}
use Prim.Native.Nat.{ℕ, ◌<◌, ◌≤◌}
use native.Mathlib.Omega.{arith}
use lib.Dec.{T, eqb}
use lib.ListN.{get_or}
use Rattle.lists.specs.Lists.{Once, StandsWhereNamed}
use Rattle.lists.specs.Lists as lists
use Rattle.lists.specs.Tests.{Whether, holds, fails}
use Rattle.lists.proofs.Tests.{is_eqb}
use Rattle.chain.specs.Table.{lists, chain_of, Sound}
use Rattle.chain.proofs.Table.{chain_has, member_range}
use Rattle.chain.proofs.Laws.{list_once}
use Rattle.chain.proofs.Standing.{stands_in, stands_there, stands_nowhere, stands_within}
use Rattle.model.specs.Sizes.{task_limit, mailbox_limit, message_limit}
use Rattle.model.specs.Rows.{task, queue, mailbox, message, valid, TaskRow, QueueRow, MailboxRow, MessageRow}
use Rattle.model.specs.WellFormed.{named_mailbox}
use Rattle.model.specs.Waits.{WaitQueue, object_of, senders_of, receivers_of, waiters_of, wait_queue}
use Rattle.model.specs.WaitQueues.{standing_in}
use Rattle.parts.specs.Chains.{task_chains, message_chains, chain_number, wait_chain, tasks_in, messages_in}
use Rattle.model.specs.declared.Wait.{Wait}
use Rattle.model.specs.declared.Wait.TheVariants.{NoWait, Sending, Receiving, AtMailbox}
use Rattle.parts.specs.Tasks.{WaitSound}
use Rattle.model.proofs.Tests.{from_within, to_within}
use Rattle.record.specs.declared.State.{State}
use Rattle.record.specs.Meaning.{task_at, mailbox_of, abs}
use Rattle.record.proofs.Rows.{row_is, row_cases}
use Rattle.record.proofs.Chains.{chain_range, chain_owner, named_chain, named_queue}

-- The lists of the two tables.
abbrev pub task_lists : State → List (List ℕ)
task_lists s = lists task_limit task_chains s.waiting.link

abbrev pub message_lists : State → List (List ℕ)
message_lists s = lists message_limit message_chains s.messages.link

-- A message's row names a mailbox where its number isn't 0.
named_number : (n b : ℕ) → cond (eqb n 0) none (some n) ≡ some b → (n ≡ b) × (0 < n)
named_number n b = go (is_eqb n 0)
  where
    go : {x : Bool} → Whether (n ≡ 0) x → cond x none (some n) ≡ some b → (n ≡ b) × (0 < n)
    go (holds z) e = absurd (none-ne-some b e)
    go (fails f) e = (some-injective n b e, omega arith)

some_number : (n : ℕ) → 0 < n → cond (eqb n 0) none (some n) ≡ some n
some_number n h = go (is_eqb n 0)
  where
    go : {x : Bool} → Whether (n ≡ 0) x → cond x none (some n) ≡ some n
    go (holds z) = absurd (omega arith)
    go (fails f) = refl

module _ (s : State) where
  -- ── What the rows of objects hold ──

  pub standing_is : (k : WaitQueue) → T (valid (object_of k)) → standing_in (abs s).rows k ≡ tasks_in s.waiting.link k
  standing_is (senders_of q) v = ap (λ (x : QueueRow). x.senders) (row_is s (queue q) v)
  standing_is (receivers_of q) v = ap (λ (x : QueueRow). x.receivers) (row_is s (queue q) v)
  standing_is (waiters_of b) v = ap (λ (x : MailboxRow). x.waiters) (row_is s (mailbox b) v)

  -- Only a valid object has anything.
  pub in_valid_object : (k : WaitQueue) {t : ℕ} → In t (standing_in (abs s).rows k) → T (valid (object_of k))
  in_valid_object (senders_of q) {t} i = row_cases s (queue q) (λ x. In t x.senders → T (valid (queue q))) (λ v j. v) (λ n j. absurd (Memᴰ.not-nil j)) i
  in_valid_object (receivers_of q) {t} i = row_cases s (queue q) (λ x. In t x.receivers → T (valid (queue q))) (λ v j. v) (λ n j. absurd (Memᴰ.not-nil j)) i
  in_valid_object (waiters_of b) {t} i = row_cases s (mailbox b) (λ x. In t x.waiters → T (valid (mailbox b))) (λ v j. v) (λ n j. absurd (Memᴰ.not-nil j)) i

  pub messages_are : (b : ℕ) → T (valid (mailbox b)) → ((abs s).rows (mailbox b)).messages ≡ messages_in s.messages.link b
  messages_are b v = ap (λ (x : MailboxRow). x.messages) (row_is s (mailbox b) v)

  pub in_valid_mailbox : (b : ℕ) {g : ℕ} → In g ((abs s).rows (mailbox b)).messages → T (valid (mailbox b))
  in_valid_mailbox b {g} i = row_cases s (mailbox b) (λ x. In g x.messages → T (valid (mailbox b))) (λ v j. v) (λ n j. absurd (Memᴰ.not-nil j)) i

  -- ── Tasks ──

  module _ (H : Sound task_limit task_chains s.waiting.link) where
    -- Whoever stands in a wait queue stands in its chain, and is a task; and the other way round.
    pub in_chain : (k : WaitQueue) {t : ℕ} → In t (standing_in (abs s).rows k) → (chain_of t (task_lists s) ≡ chain_number k) × T (valid (task t))
    unfolding tasks_in
    in_chain k {t} i =
        let j : In t (get_or (task_lists s) (chain_number k) []) = rw (standing_is k (in_valid_object k i)) at i in
        let r = member_range H (chain_number k) j in
        (stands_in H (chain_number k) j, to_within 1 task_limit t r.0 r.1)

    pub in_queue : (k : WaitQueue) {t : ℕ} → T (valid (object_of k)) → chain_of t (task_lists s) ≡ chain_number k → In t (standing_in (abs s).rows k)
    unfolding tasks_in
    in_queue k {t} v e = rw (standing_is k v) (stands_there t (chain_number k) (task_lists s) e (chain_range k v).0)

    chain_once : (k : WaitQueue) → T (valid (object_of k)) → Once (get_or (task_lists s) (chain_number k) [])
    chain_once k v = list_once (record { sound = H; low = (chain_range k v).0; high = (chain_range k v).1 })

    once : (k : WaitQueue) → Once (standing_in (abs s).rows k)
    unfolding tasks_in
    once (senders_of q) = row_cases s (queue q) (λ x. Once x.senders) (λ v. chain_once (senders_of q) v) (λ n. lists.no_number)
    once (receivers_of q) = row_cases s (queue q) (λ x. Once x.receivers) (λ v. chain_once (receivers_of q) v) (λ n. lists.no_number)
    once (waiters_of b) = row_cases s (mailbox b) (λ x. Once x.waiters) (λ v. chain_once (waiters_of b) v) (λ n. lists.no_number)

    -- Tasks stand where they wait if each stands in the chain that its wait names.
    pub waiting_from : ((t : ℕ) → T (valid (task t)) → WaitSound s.counter (chain_of t (task_lists s)) (task_at s t).wait)
        → StandsWhereNamed (standing_in (abs s).rows) (λ t. wait_queue ((abs s).rows (task t)).wait)
    waiting_from f = record { in_named = in_named; no_other = no_other; no_twice = once }
      where
        in_named : (t : ℕ) (k : WaitQueue) → wait_queue ((abs s).rows (task t)).wait ≡ some k → In t (standing_in (abs s).rows k)
        in_named t k = row_cases s (task t) (λ x. wait_queue x.wait ≡ some k → In t (standing_in (abs s).rows k))
            (λ v e. let n = named_chain (task_at s t).wait k e (f t v).object_in_range in in_queue k n.0 (sym (f t v).stands ∙ n.1))
            (λ n e. absurd (none-ne-some k e))

        no_other : (t : ℕ) (k : WaitQueue) → In t (standing_in (abs s).rows k) → wait_queue ((abs s).rows (task t)).wait ≡ some k
        no_other t k i =
            let c = in_chain k i in
            let w : wait_queue (task_at s t).wait ≡ some k = named_queue (task_at s t).wait k (f t c.1).object_in_range (in_valid_object k i) ((f t c.1).stands ∙ c.0) in
            ap (λ (x : TaskRow). wait_queue x.wait) (row_is s (task t) c.1) ∙ w

    -- And each stands in the chain that its wait names if tasks stand where they wait.
    pub stands_from : StandsWhereNamed (standing_in (abs s).rows) (λ t. wait_queue ((abs s).rows (task t)).wait)
        → (t : ℕ) → T (valid (task t)) → wait_chain (task_at s t).wait ≡ chain_of t (task_lists s)
    stands_from S t v = go (task_at s t).wait (ap (λ (x : TaskRow). wait_queue x.wait) (row_is s (task t) v))
      where
        in_its_queue : (k : WaitQueue) → wait_queue ((abs s).rows (task t)).wait ≡ some k → chain_of t (task_lists s) ≡ chain_number k
        in_its_queue k e = (in_chain k (S.in_named t k e)).0

        go : (w : Wait) → wait_queue ((abs s).rows (task t)).wait ≡ wait_queue w → wait_chain w ≡ chain_of t (task_lists s)
        go NoWait e = sym (stands_nowhere t (task_lists s) (λ n i.
            let r = chain_has H n i in
            let o = chain_owner n r.0 r.1 in
            none-ne-some o.owner (sym e ∙ S.no_other t o.owner (in_queue o.owner o.in_range (stands_in H n i ∙ sym o.chain_is)))))
        go (Sending q end word) e = sym (in_its_queue (senders_of q) e)
        go (Receiving q end) e = sym (in_its_queue (receivers_of q) e)
        go (AtMailbox b end) e = sym (in_its_queue (waiters_of b) e)

  -- ── Messages ──

  module _ (H : Sound message_limit message_chains s.messages.link) where
    -- Whatever stands in a mailbox is a message, and names it.
    pub in_mailbox : (b : ℕ) {g : ℕ} → In g ((abs s).rows (mailbox b)).messages → (mailbox_of s.messages.link g ≡ b) × T (valid (message g))
    unfolding messages_in mailbox_of
    in_mailbox b {g} i =
        let j : In g (get_or (message_lists s) b []) = rw (messages_are b (in_valid_mailbox b i)) at i in
        let r = member_range H b j in
        (stands_in H b j, to_within 1 message_limit g r.0 r.1)

    -- Messages stand where they name, since their rows are read from the chains.
    pub queued_from : StandsWhereNamed (λ b. ((abs s).rows (mailbox b)).messages) (λ g. named_mailbox ((abs s).rows (message g)))
    unfolding messages_in mailbox_of
    queued_from = record { in_named = in_named; no_other = no_other; no_twice = no_twice }
      where
        in_named : (g b : ℕ) → named_mailbox ((abs s).rows (message g)) ≡ some b → In g ((abs s).rows (mailbox b)).messages
        in_named g b = row_cases s (message g) (λ x. named_mailbox x ≡ some b → In g ((abs s).rows (mailbox b)).messages)
            (λ v e.
            let n = named_number (mailbox_of s.messages.link g) b e in
            let h : mailbox_of s.messages.link g ≤ message_chains = stands_within H g in
            let w : T (valid (mailbox b)) = let z = n.0 in let l = n.1 in to_within 1 mailbox_limit b (omega arith) (omega arith) in
            rw (messages_are b w) (stands_there g b (message_lists s) n.0 (from_within 1 mailbox_limit b w).0))
            (λ n e. absurd (none-ne-some b e))

        no_other : (g b : ℕ) → In g ((abs s).rows (mailbox b)).messages → named_mailbox ((abs s).rows (message g)) ≡ some b
        no_other g b i =
            let c = in_mailbox b i in
            let w = from_within 1 mailbox_limit b (in_valid_mailbox b i) in
            ap (λ (x : MessageRow). named_mailbox x) (row_is s (message g) c.1) ∙ (ap (λ n. cond (eqb n 0) none (some n)) c.0 ∙ some_number b w.0)

        no_twice : (b : ℕ) → Once ((abs s).rows (mailbox b)).messages
        no_twice b = row_cases s (mailbox b) (λ x. Once x.messages) (λ v. let r = from_within 1 mailbox_limit b v in list_once (record { sound = H; low = r.0; high = r.1 })) (λ n. lists.no_number)
