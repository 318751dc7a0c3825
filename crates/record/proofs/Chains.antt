-- A wait names a wait queue exactly where it names that queue's chain, since no two wait queues share a chain: by the ranges of their numbers.
use mathlib.Core.Path.{◌≡◌, refl, ap, subst}
use mathlib.Core.Option.{some, none-ne-some, some-injective}
use Prim.Native.Nat.{ℕ, ◌+◌, ◌-◌, ◌≤◌}
use native.Mathlib.Omega.{arith}
use lib.Dec.{T, leb, leb→le, nleb→lt}
use Rattle.model.specs.Sizes.{queue_limit, mailbox_limit}
use Rattle.model.specs.Rows.{valid}
use Rattle.model.specs.WellFormed.{ObjectInRange}
use Rattle.model.specs.Waits.{WaitQueue, object_of, senders_of, receivers_of, waiters_of, wait_queue}
use Rattle.model.specs.declared.Wait.{Wait}
use Rattle.model.specs.declared.Wait.TheVariants.{NoWait, Sending, Receiving, AtMailbox}
use Rattle.parts.specs.Chains.{task_chains, chain_number, wait_chain}
use Rattle.model.proofs.Tests.{from_within, to_within}
use Rattle.record.proofs.Rows.{passes_or_not}

-- The chain of a wait queue is one of the table's.
pub chain_range : (k : WaitQueue) → T (valid (object_of k)) → (1 ≤ chain_number k) × (chain_number k ≤ task_chains)
chain_range (senders_of q) v = let r = from_within 1 queue_limit q v in (omega arith, omega arith)
chain_range (receivers_of q) v = let r = from_within 1 queue_limit q v in (omega arith, omega arith)
chain_range (waiters_of b) v = let r = from_within 1 mailbox_limit b v in (omega arith, omega arith)

-- Each of the table's chains is a wait queue's.
pub record ChainOwner (n : ℕ) : Type 0 where
  pub owner : WaitQueue
  pub in_range : T (valid (object_of owner))
  pub chain_is : chain_number owner ≡ n

pub chain_owner : (n : ℕ) → 1 ≤ n → n ≤ task_chains → ChainOwner n
chain_owner n low high = passes_or_not (leb n 16)
    (λ a. record { owner = senders_of n; in_range = to_within 1 16 n low (leb→le n 16 a); chain_is = refl })
    (λ a. passes_or_not (leb n 32)
    (λ b. let h = leb→le n 32 b in let l = nleb→lt n 16 a in record { owner = receivers_of (n - 16); in_range = to_within 1 16 (n - 16) (omega arith) (omega arith); chain_is = omega arith })
    (λ b. let l = nleb→lt n 32 b in record { owner = waiters_of (n - 32); in_range = to_within 1 16 (n - 32) (omega arith) (omega arith); chain_is = omega arith }))

-- A wait that names a wait queue names its chain.
pub named_chain : (w : Wait) (k : WaitQueue) → wait_queue w ≡ some k → ObjectInRange w → T (valid (object_of k)) × (wait_chain w ≡ chain_number k)
named_chain NoWait k e r = absurd (none-ne-some k e)
named_chain (Sending q end word) k e r = subst (λ j. T (valid (object_of j)) × (q ≡ chain_number j)) (some-injective (senders_of q) k e) (r, refl)
named_chain (Receiving q end) k e r = subst (λ j. T (valid (object_of j)) × (16 + q ≡ chain_number j)) (some-injective (receivers_of q) k e) (r, refl)
named_chain (AtMailbox b end) k e r = subst (λ j. T (valid (object_of j)) × (32 + b ≡ chain_number j)) (some-injective (waiters_of b) k e) (r, refl)

-- A wait that names a wait queue's chain names that wait queue.
pub named_queue : (w : Wait) (k : WaitQueue) → ObjectInRange w → T (valid (object_of k)) → wait_chain w ≡ chain_number k → wait_queue w ≡ some k
named_queue NoWait k r v e = let c = chain_range k v in absurd (omega arith)
named_queue (Sending q end word) (senders_of p) r v e = ap (λ n. some (senders_of n)) e
named_queue (Sending q end word) (receivers_of p) r v e = let a = from_within 1 16 q r in let b = from_within 1 16 p v in absurd (omega arith)
named_queue (Sending q end word) (waiters_of p) r v e = let a = from_within 1 16 q r in let b = from_within 1 16 p v in absurd (omega arith)
named_queue (Receiving q end) (senders_of p) r v e = let a = from_within 1 16 q r in let b = from_within 1 16 p v in absurd (omega arith)
named_queue (Receiving q end) (receivers_of p) r v e = let f : q ≡ p = omega arith in ap (λ n. some (receivers_of n)) f
named_queue (Receiving q end) (waiters_of p) r v e = let a = from_within 1 16 q r in let b = from_within 1 16 p v in absurd (omega arith)
named_queue (AtMailbox q end) (senders_of p) r v e = let a = from_within 1 16 q r in let b = from_within 1 16 p v in absurd (omega arith)
named_queue (AtMailbox q end) (receivers_of p) r v e = let a = from_within 1 16 q r in let b = from_within 1 16 p v in absurd (omega arith)
named_queue (AtMailbox q end) (waiters_of p) r v e = let f : q ≡ p = omega arith in ap (λ n. some (waiters_of n)) f
