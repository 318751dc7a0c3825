-- A message is delivered, taken or queued: the promises of the chains and of the waits, followed along each program.
use mathlib.Core.Path.{◌≡◌, refl, sym, ap, ◌∙◌, subst}
use mathlib.Core.Bool.{Bool, true, false, cond}
use mathlib.Core.List.{List, [], map, head_d, Memᴰ as In}
use Prim.Native.Nat.{ℕ, ◌+◌, ◌≤◌}
use native.Mathlib.Omega.{arith}
use lib.Dec.{T}
use lib.ListN.{length, get_or, set, length-set, length-map}
use Rattle.lists.proofs.Stands.{in_head}
use Rattle.lists.proofs.Tests.{is_eqb, passed_test}
use Rattle.rows.specs.Program.{update}
use Rattle.chain.specs.Table.{lists, chain_of, keys_of}
use Rattle.chain.specs.Changes.{HasChain, Insertable, Inserted, Popped}
use Rattle.chain.proofs.Laws.{list_range, keys_of_free}
use Rattle.model.specs.Sizes.{task_limit, mailbox_limit, message_limit, priority_limit}
use Rattle.model.specs.Rows.{mailbox, message, same_key, valid, MailboxRow, MessageRow, messages_by_priority}
use Rattle.model.specs.Codes.{finished}
use Rattle.model.specs.WaitQueues.{place, release, set_standing}
use Rattle.model.specs.Mailboxes.{deliver_message, queue_message, take_message}
use Rattle.model.specs.Waits.{waiters_of}
use Rattle.model.specs.declared.Code.TheVariants.{Ok as E_OK}
use Rattle.model.proofs.Choices.{cond_yes}
use Rattle.model.proofs.Tests.{from_within, to_within}
use Rattle.model.proofs.WaitMoves.{defined_mailbox}
use Rattle.model.proofs.After.{after_return, after_get, after_put, after_get_each}
use Rattle.parts.specs.Chains.{task_chains, message_chains, messages_in}
use Rattle.parts.specs.Tasks.{with_wait_ended}
use Rattle.parts.specs.Queues.{is_defined}
use Rattle.parts.specs.declared.Task.{Task}
use Rattle.record.specs.declared.State.{State}
use Rattle.record.specs.Meaning.{task_at, mailbox_at, keeps_priorities, abs}
use Rattle.record.specs.Meaning as meaning
use Rattle.record.specs.Step.{Does}
use Rattle.record.proofs.Rows.{row_is}
use Rattle.record.proofs.Standing.{messages_are}
use Rattle.record.proofs.Keys.{kept_priorities_are}
use Rattle.record.proofs.Laws.{with_task, with_waiting, does}
use Rattle.record.proofs.Laws as laws
use Rattle.waits.specs.Waiting.{ChainOf, OnChain, Releasable}
use Rattle.waits.proofs.Laws.{rows_of}
use Rattle.waits.proofs.Laws as waits
use Rattle.waits.proofs.Moves.{released_all}
use Rattle.mailboxes.specs.Premises.{mailbox_in, OnMailbox, Deliverable, Queueable, Takeable}
use Rattle.mailboxes.proofs.Laws.{has_messages, message_inserted, message_popped}

-- What is kept under a test, kept once more.
kept_twice : (b : Bool) (n : ℕ) → cond b (cond b n 0) 0 ≡ cond b n 0
kept_twice true n = refl
kept_twice false n = refl

-- ── A defined mailbox ──

module _ {s : State} {b : ℕ} (a : OnMailbox s b) where
  pub valid_number : T (valid (mailbox b))
  valid_number = defined_mailbox (rows_of a.sound) b a.defined

  pub number_range : (1 ≤ b) × (b ≤ mailbox_limit)
  number_range = from_within 1 mailbox_limit b valid_number

  cell_defined : T (is_defined (mailbox_at s b).defined)
  cell_defined = subst (λ (x : MailboxRow). T x.defined) (row_is s (mailbox b) valid_number) a.defined

  attribute_is : (mailbox_in s b).attribute ≡ (mailbox_at s b).attribute
  attribute_is = ap (λ (x : MailboxRow). x.attribute) (row_is s (mailbox b) valid_number) ∙ cond_yes (is_defined (mailbox_at s b).defined) _ _ cell_defined

  pub on_waiters : OnChain s (32 + b)
  on_waiters = let r = number_range in record { sound = a.sound; low = omega arith; high = omega arith }

  pub own_chain : ChainOf (waiters_of b) (32 + b)
  own_chain = record { valid_object = valid_number; chain_is = refl }

  pub on_messages : HasChain message_limit message_chains b s.messages.link
  on_messages = has_messages a.sound.readable b valid_number

  queued_are : (mailbox_in s b).messages ≡ get_or (lists message_limit message_chains s.messages.link) b []
  unfolding messages_in
  queued_are = messages_are s b valid_number

-- ── A message is delivered ──

module _ {s : State} {b : ℕ} (a : Deliverable s b) where
  pub releasable : Releasable s (32 + b)
  releasable = waits.releasable (on_waiters a.on) (waiters_of b) (own_chain a.on) a.someone

  pub delivered : {link : List ℕ} {t g : ℕ} {y : Task} → Popped task_limit task_chains (32 + b) s.waiting.link link t → y ≡ with_wait_ended 0 g (task_at s t)
      → Does (deliver_message b (mailbox_in s b) g) s (record { state = with_task t y (with_waiting link s); answer = finished E_OK 0 0 0 })
  unfolding deliver_message release set_standing same_key update
  delivered {g = g} {y} p e = does (after_put (after_get (after_put (after_return ((released_all releasable p g y e).becomes (waiters_of b) (own_chain a.on), refl)))))

-- ── The head message is taken ──

module _ {s : State} {b : ℕ} (a : Takeable s b) where
  module _ {g : ℕ} {link : List ℕ} (p : Popped message_limit message_chains b s.messages.link link g) where
    head_is : head_d (mailbox_in s b).messages 0 ≡ g
    head_is = ap (λ (l : List ℕ). head_d l 0) (queued_are a.on) ∙ sym p.first_is

    head_valid : T (valid (message g))
    head_valid =
        let i : In g (get_or (lists message_limit message_chains s.messages.link) b []) = rw p.first_is (in_head _ (rw (queued_are a.on) at a.something)) in
        let r = list_range (on_messages a.on) i in
        to_within 1 message_limit g r.0 r.1

    pub taken : Does (take_message b (mailbox_in s b)) s (record { state = laws.with_messages (record { link = link; key = s.messages.key }) s; answer = finished E_OK g 0 0 })
    unfolding take_message messages_in
    taken = does (after_put (after_put (after_return
        (rw (head_is, queued_are a.on) (message_popped a.on.sound.readable b (valid_number a.on) p head_valid), ap (λ n. finished E_OK n 0 0) (sym head_is)))))

-- ── A message is queued ──

module _ {s : State} {b g priority : ℕ} (a : Queueable s b g priority) where
  pub message_range : (1 ≤ g) × (g ≤ message_limit)
  message_range = from_within 1 message_limit g a.valid_message

  message_nowhere : chain_of g (lists message_limit message_chains s.messages.link) ≡ 0
  unfolding meaning.mailbox_of
  message_nowhere = sym (ap (λ (x : MessageRow). x.queued_in) (row_is s (message g) a.valid_message)) ∙ passed_test (is_eqb _ 0) a.is_free

  pub queue_insertable : (rank : ℕ) → Insertable message_limit message_chains b g s.messages.link (set s.messages.key g rank)
  queue_insertable rank = record {
    has = on_messages a.on;
    positive = message_range.0;
    in_table = message_range.1;
    free = message_nowhere;
    keys_count = length-set s.messages.key g rank ∙ a.on.sound.readable.sizes.message_keys;
  }

  abbrev by_priority : Bool
  by_priority = messages_by_priority (mailbox_in s b).attribute

  module _ {ranked : Bool} (ranked_is : ranked ≡ messages_by_priority (mailbox_at s b).attribute) where
    ranked_by : ranked ≡ by_priority
    ranked_by = ranked_is ∙ ap messages_by_priority (sym (attribute_is a.on))

    pub rank_fits : T ranked → priority ≤ priority_limit
    rank_fits t =
        let by : T by_priority = rw ranked_by at t in
        let low = a.in_range by in
        let high = (((rows_of a.on.sound).mailboxes b).highest_in_range by).1 in
        omega arith

    module _ {rank limit n : ℕ} {link : List ℕ} (rank_is : rank ≡ cond ranked priority 0) (limit_is : limit ≡ cond ranked rank 255)
        (p : Inserted message_limit message_chains b g limit s.messages.link (set s.messages.key g rank) link n) where
      abbrev keys : List ℕ
      keys = map (λ j. ((abs s).rows (message j)).priority) (mailbox_in s b).messages

      place_is : n ≡ place by_priority priority keys
      unfolding place messages_in
      place_is = go by_priority (rank_is ∙ rw ranked_by refl) (limit_is ∙ rw ranked_by refl) (λ t. kept t)
        where
          l : List ℕ
          l = get_or (lists message_limit message_chains s.messages.link) b []

          kept : T by_priority → keys ≡ keys_of s.messages.key l
          kept t = kept_priorities_are s a.on.sound.readable.messages b (valid_number a.on)
              (subst (λ (x : MailboxRow). T (messages_by_priority x.attribute)) (row_is s (mailbox b) (valid_number a.on)) t)

          go : (x : Bool) → rank ≡ cond x priority 0 → limit ≡ cond x rank 255 → (T x → keys ≡ keys_of s.messages.key l) → n ≡ place x priority keys
          go true e f h = p.place_is ∙ rw (keys_of_free a.on.sound.readable.messages s.messages.key g rank message_nowhere b, f, e, h tt) refl
          go false e f h = p.at_the_end f ∙ (sym (ap length (queued_are a.on)) ∙ simp length-map)

      -- The rank is kept where the mailbox goes by priority, and is then the priority.
      rank_kept : cond (keeps_priorities s.mailboxes b) rank 0 ≡ cond by_priority priority 0
      rank_kept =
          ap (λ x. cond x rank 0) (cond_yes (valid (mailbox b)) _ false (valid_number a.on) ∙ sym (ap (λ (x : MailboxRow). messages_by_priority x.attribute) (row_is s (mailbox b) (valid_number a.on))))
          ∙ (ap (λ x. cond by_priority x 0) (rank_is ∙ rw ranked_by refl) ∙ kept_twice by_priority priority)

      pub queued : Does (queue_message b (mailbox_in s b) g priority) s (record { state = laws.with_messages (record { link = link; key = set s.messages.key g rank }) s; answer = finished E_OK n 0 0 })
      unfolding queue_message messages_in
      queued = does (after_get_each message _ _ _ (after_put (after_put (after_return
          (rw (← place_is, ← rank_kept, queued_are a.on) (message_inserted a.on.sound.readable b (valid_number a.on) rank (queue_insertable rank) p), ap (λ n. finished E_OK n 0 0) place_is)))))
