-- A data queue's test says what `QueueSound` says: a wait queue is empty exactly where its chain's first number is 0.
use mathlib.Core.Path.{◌≡◌, sym, ◌∙◌}
use mathlib.Core.Bool.{Bool, true, false, not}
use mathlib.Core.List.{List, [], head_d}
use mathlib.Core.Logic.{inl, inr, ⊎_elim}
use Prim.Native.Nat.{ℕ, ◌+◌, ◌≤◌, zero-le}
use native.Mathlib.Omega.{arith}
use lib.Dec.{T, eqb}
use lib.ListN.{length, get_or}
use borrow.Author.Tests.{eq-eqb, ne_eqb}
use Rattle.lists.specs.Lists.{InOrder, empty}
use Rattle.lists.specs.Tests.{Whether}
use Rattle.lists.proofs.Tests.{is_map}
use Rattle.chain.specs.Table.{lists, keys_of}
use Rattle.chain.specs.Changes.{HasChain}
use Rattle.ring.specs.Ring.{stored, InRange}
use Rattle.ring.specs.declared.Ring.{Ring}
use Rattle.ring.proofs.Stored.{length_stored}
use Rattle.model.specs.Sizes.{task_limit, priority_limit}
use Rattle.parts.specs.Chains.{task_chains, tasks_in}
use Rattle.parts.specs.Queues.{is_defined, QueueSound, QueueTestable, MayWait}
use Rattle.parts.specs.declared.Queue.{Queue}
use Rattle.parts.proofs.Empty.{ZeroIffEmpty, count_zero, chain_zero, unless_empty, zero_or}

counted : (ring : Ring) → ZeroIffEmpty ring.count (stored ring)
counted ring = count_zero (stored ring) (length_stored ring)

-- Those that wait at a queue with this ring, in numbers and in lists.
module _ (ring : Ring) {sender receiver : ℕ} {senders receivers : List ℕ} (first_sender : ZeroIffEmpty sender senders) (first_receiver : ZeroIffEmpty receiver receivers) where
  senders_wait : MayWait ring.count ring.capacity sender receiver → T (not (empty senders)) → (length (stored ring) ≡ ring.capacity) × (receivers ≡ [])
  senders_wait w = unless_empty first_sender (λ h. (length_stored ring ∙ h.0, first_receiver.then_empty h.1)) w.senders

  receivers_wait : MayWait ring.count ring.capacity sender receiver → T (not (empty receivers)) → (stored ring ≡ []) × (senders ≡ [])
  receivers_wait w t = (
    unless_empty first_receiver (counted ring).then_empty w.receivers t,
    unless_empty first_receiver first_sender.then_empty (⊎_elim inr (λ h. inl h.1) w.senders) t,
  )

  waits_are : (T (not (empty senders)) → (length (stored ring) ≡ ring.capacity) × (receivers ≡ [])) → (T (not (empty receivers)) → (stored ring ≡ []) × (senders ≡ []))
      → MayWait ring.count ring.capacity sender receiver
  waits_are f g = record {
    senders = zero_or first_sender (λ h. (sym (length_stored ring) ∙ h.0, first_receiver.then_zero h.1)) f;
    receivers = zero_or first_receiver (λ h. (counted ring).then_zero h.0) g;
  }

module _ {link key : List ℕ} {q : ℕ} (a : QueueTestable q link key) where
  senders_chain : HasChain task_limit task_chains q link
  senders_chain = record { sound = a.table; low = a.low; high = let h = a.high in omega arith }

  receivers_chain : HasChain task_limit task_chains (16 + q) link
  receivers_chain = record { sound = a.table; low = omega arith; high = let h = a.high in omega arith }

module _ (x : Queue) {link key : List ℕ} {q : ℕ} (a : QueueTestable q link key) {sender receiver : ℕ}
    (s : sender ≡ head_d (get_or (lists task_limit task_chains link) q []) 0) (r : receiver ≡ head_d (get_or (lists task_limit task_chains link) (16 + q) []) 0) where
  -- What the tests of a defined queue decide: ranges, then who may wait, then the order.
  abbrev Tested : Type 0
  Tested =
      ((x.attribute ≤ 1) × InRange x.ring)
      × (MayWait x.ring.count x.ring.capacity sender receiver
      × (T (eqb x.attribute 1) → InOrder 1 priority_limit (keys_of key (get_or (lists task_limit task_chains link) q []))))

  pub defined_queue : {b : Bool} → x.defined ≡ 1 → Whether Tested b → Whether (QueueSound x link key q) b
  unfolding tasks_in
  defined_queue one i =
      let d : is_defined x.defined ≡ true = eq-eqb x.defined 1 one in
      let first_sender = chain_zero (senders_chain a) s in
      let first_receiver = chain_zero (receivers_chain a) r in
      is_map
      (λ p. record {
        readable = record { flag = omega arith; ring = λ t. p.0.1 };
        row = record {
          undefined = λ t. absurd (rw d at t);
          attribute_in_range = rw d p.0.0;
          capacity_in_range = rw d p.0.1.capacity_fits;
          count = rw (d, length_stored) p.0.1.count_fits;
          senders = rw d (senders_wait x.ring first_sender first_receiver p.1.0);
          receivers = receivers_wait x.ring first_sender first_receiver p.1.0;
        };
        senders_in_order = λ t. p.1.1 (rw d at t);
      })
      (λ y. (
        (rw d at y.row.attribute_in_range, y.readable.ring (rw d tt)),
        (waits_are x.ring first_sender first_receiver (rw d at y.row.senders) y.row.receivers, λ t. y.senders_in_order (rw d t)),
      ))
      i

  pub undefined_queue : {b : Bool} → (x.defined ≡ 1 → ⊥) → Whether ((((x.defined ≡ 0) × (x.ring.count ≡ 0)) × (sender ≡ 0)) × (receiver ≡ 0)) b → Whether (QueueSound x link key q) b
  unfolding tasks_in
  undefined_queue other i =
      let d : is_defined x.defined ≡ false = ne_eqb x.defined 1 other in
      let first_sender = chain_zero (senders_chain a) s in
      let first_receiver = chain_zero (receivers_chain a) r in
      let words = counted x.ring in
      is_map
      (λ p. record {
        readable = record { flag = let z = p.0.0.0 in omega arith; ring = λ t. absurd (rw d at t) };
        row = record {
          undefined = λ t. (words.then_empty p.0.0.1, first_sender.then_empty p.0.1, first_receiver.then_empty p.1);
          attribute_in_range = rw d zero-le;
          capacity_in_range = rw d zero-le;
          count = rw (d, length_stored, p.0.0.1) zero-le;
          senders = unless_empty first_sender (λ h. h) (inl p.0.1);
          receivers = unless_empty first_receiver (λ h. h) (inl p.1);
        };
        senders_in_order = λ t. absurd (rw d at t);
      })
      (λ y.
      let h = y.row.undefined (rw d tt) in
      let f = y.readable.flag in
      let zero : x.defined ≡ 0 = omega arith in
      (((zero, words.then_zero h.0), first_sender.then_zero h.1), first_receiver.then_zero h.2))
      i
