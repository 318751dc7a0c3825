-- A mailbox's test says what `MailboxSound` says: a list is empty exactly where its chain's first number is 0, and the attributes 0 to 3 are four cases.
use mathlib.Core.Path.{◌≡◌, refl, sym, ◌∙◌}
use mathlib.Core.Bool.{Bool, true, false, cond}
use mathlib.Core.List.{List, [], head_d}
use mathlib.Core.Logic.{◌⊎◌, inl, inr, ⊎_elim}
use Prim.Native.Nat.{ℕ, zero, suc, ◌+◌, ◌<◌, ◌≤◌, zero-le}
use native.Mathlib.Omega.{arith}
use lib.Dec.{T, leb, leb→le}
use lib.ListN.{get_or}
use borrow.Author.Tests.{eq-eqb, ne_eqb, leb-false}
use Rattle.lists.specs.Lists.{InOrder, one_of}
use Rattle.lists.specs.Tests.{Whether}
use Rattle.lists.proofs.Tests.{is_map}
use Rattle.chain.specs.Table.{lists, keys_of}
use Rattle.chain.specs.Changes.{HasChain}
use Rattle.model.specs.Sizes.{task_limit, message_limit, priority_limit}
use Rattle.model.specs.Rows.{waiters_by_priority, messages_by_priority}
use Rattle.model.proofs.Choices.{cond_yes}
use Rattle.parts.specs.Chains.{task_chains, message_chains, tasks_in, messages_in}
use Rattle.parts.specs.Mailboxes.{kept_attribute, MailboxSound, MailboxTestable, MailboxNumbersSound}
use Rattle.parts.specs.Queues.{is_defined}
use Rattle.parts.specs.declared.Mailbox.{Mailbox}
use Rattle.parts.proofs.Empty.{chain_zero, unless_empty, zero_or}

messages_go_by_priority : (attribute : ℕ) → attribute ≤ 3 → messages_by_priority attribute ≡ leb 2 attribute
unfolding one_of
messages_go_by_priority zero h = refl
messages_go_by_priority (suc zero) h = refl
messages_go_by_priority (suc (suc zero)) h = refl
messages_go_by_priority (suc (suc (suc zero))) h = refl
messages_go_by_priority (suc (suc (suc (suc attribute)))) h = absurd (omega arith)

-- The highest message priority that is kept.
abbrev kept_highest : ℕ → ℕ → ℕ
kept_highest attribute highest = cond (messages_by_priority attribute) highest 0

highest_range : {attribute highest : ℕ} → MailboxNumbersSound attribute highest → T (messages_by_priority attribute)
    → (1 ≤ kept_highest attribute highest) × (kept_highest attribute highest ≤ priority_limit)
highest_range {attribute} {highest} n t =
    let by_priority = leb→le 2 attribute (rw (messages_go_by_priority attribute n.attribute_in_range) at t) in
    rw (cond_yes (messages_by_priority attribute) highest 0 t) (⊎_elim (λ below. absurd (omega arith)) (λ r. r) n.highest_in_range)

numbers_sound : (attribute highest : ℕ) → attribute ≤ 3
    → (T (messages_by_priority attribute) → (1 ≤ kept_highest attribute highest) × (kept_highest attribute highest ≤ priority_limit)) → MailboxNumbersSound attribute highest
numbers_sound attribute highest range h = record { attribute_in_range = range; highest_in_range = go (messages_by_priority attribute) refl h }
  where
    go : (b : Bool) → messages_by_priority attribute ≡ b → (T b → (1 ≤ cond b highest 0) × (cond b highest 0 ≤ priority_limit))
        → (attribute < 2) ⊎ ((1 ≤ highest) × (highest ≤ priority_limit))
    go true e f = inr (f tt)
    go false e f = inl (leb-false 2 attribute (sym (messages_go_by_priority attribute range) ∙ e))

module _ {link key message_link message_key : List ℕ} {number : ℕ} (a : MailboxTestable number link key message_link message_key) where
  waiters_chain : HasChain task_limit task_chains (32 + number) link
  waiters_chain = record { sound = a.tasks_table; low = omega arith; high = let h = a.high in omega arith }

  messages_chain : HasChain message_limit message_chains number message_link
  messages_chain = record { sound = a.messages_table; low = a.low; high = a.high }

module _ (x : Mailbox) {link key message_link message_key : List ℕ} {number : ℕ} (a : MailboxTestable number link key message_link message_key) {waiter message : ℕ}
    (w : waiter ≡ head_d (get_or (lists task_limit task_chains link) (32 + number) []) 0) (m : message ≡ head_d (get_or (lists message_limit message_chains message_link) number []) 0) where
  -- What the tests of a defined mailbox decide: ranges, then who may wait, then the waiters' order and the messages'.
  abbrev Tested : Type 0
  Tested =
      MailboxNumbersSound x.attribute x.highest
      × (((waiter ≡ 0) ⊎ (message ≡ 0))
      × ((T (waiters_by_priority x.attribute) → InOrder 1 priority_limit (keys_of key (get_or (lists task_limit task_chains link) (32 + number) [])))
      × (T (messages_by_priority x.attribute) → InOrder 1 x.highest (keys_of message_key (get_or (lists message_limit message_chains message_link) number [])))))

  pub defined_mailbox : {b : Bool} → x.defined ≡ 1 → Whether Tested b → Whether (MailboxSound x link key message_link message_key number) b
  unfolding tasks_in messages_in
  defined_mailbox one i =
      let d : is_defined x.defined ≡ true = eq-eqb x.defined 1 one in
      let first_waiter = chain_zero (waiters_chain a) w in
      let first_message = chain_zero (messages_chain a) m in
      let kept : kept_attribute x ≡ x.attribute = rw d in
      is_map
      (λ p.
      let range = p.0.attribute_in_range in
      record {
        flag = omega arith;
        row = record {
          undefined = λ t. absurd (rw d at t);
          attribute_in_range = rw kept range;
          highest_in_range = rw kept (highest_range p.0);
          waiters = unless_empty first_waiter first_message.then_empty p.1.0;
        };
        waiters_in_order = λ t. p.1.1.0 (rw kept at t);
        messages_in_order = λ t. p.1.1.1 (rw kept at t);
      })
      (λ y.
      let range : x.attribute ≤ 3 = rw kept at y.row.attribute_in_range in
      let numbers = numbers_sound x.attribute x.highest range (rw kept at y.row.highest_in_range) in
      let waits = zero_or first_waiter first_message.then_zero y.row.waiters in (
        numbers,
        (
          waits,
          (
            (λ t. y.waiters_in_order (rw kept t)),
            (λ t. y.messages_in_order (rw kept t)),
          ),
        ),
      ))
      i

  pub undefined_mailbox : {b : Bool} → (x.defined ≡ 1 → ⊥) → Whether (((x.defined ≡ 0) × (waiter ≡ 0)) × (message ≡ 0)) b → Whether (MailboxSound x link key message_link message_key number) b
  unfolding tasks_in messages_in one_of
  undefined_mailbox other i =
      let d : is_defined x.defined ≡ false = ne_eqb x.defined 1 other in
      let first_waiter = chain_zero (waiters_chain a) w in
      let first_message = chain_zero (messages_chain a) m in
      is_map
      (λ p. record {
        flag = let z = p.0.0 in omega arith;
        row = record {
          undefined = λ t. (first_waiter.then_empty p.0.1, first_message.then_empty p.1);
          attribute_in_range = rw d zero-le;
          highest_in_range = λ t. absurd (rw d at t);
          waiters = unless_empty first_waiter (λ h. h) (inl p.0.1);
        };
        waiters_in_order = λ t. absurd (rw d at t);
        messages_in_order = λ t. absurd (rw d at t);
      })
      (λ y.
      let h = y.row.undefined (rw d tt) in
      let f = y.flag in
      let zero : x.defined ≡ 0 = omega arith in
      ((zero, first_waiter.then_zero h.0), first_message.then_zero h.1))
      i
