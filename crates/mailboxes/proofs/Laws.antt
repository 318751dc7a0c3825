-- A changed mailbox or chain of messages is the mailbox's row and its messages' rows changed: row by row, the others being read from cells that are as they were.
use mathlib.Core.Path.{◌≡◌, refl, ap, ◌∙◌, fun_ext}
use mathlib.Core.Bool.{Bool, cond}
use mathlib.Core.List.Memᴰ
use mathlib.Core.List.{List, [], tail, Memᴰ as In}
use mathlib.Core.Logic.{◌≢◌}
use Prim.Native.Nat.{ℕ, ◌<◌, ◌≤◌}
use native.Mathlib.Omega.{arith}
use native.Mathlib.Decide.{ℕ_discrete}
use lib.Dec.{T, eqb}
use lib.ListN.{length, get_or, set, length-set}
use lib.Seq.{get_or-set_same, get_or-set_other}
use borrow.Author.Tests.{eq-eqb, ne_eqb}
use Rattle.lists.specs.Lists.{insert_at}
use Rattle.lists.specs.Tests.{Whether, holds, fails}
use Rattle.lists.proofs.Members.{is_one_of}
use Rattle.rows.specs.Program.{update}
use Rattle.rows.proofs.Update.{update_cases}
use Rattle.chain.specs.Table.{key_cells}
use Rattle.chain.specs.Changes.{HasChain, Changed, Insertable, Inserted, Popped}
use Rattle.chain.proofs.Standing.{stands_there, new_list, other_list}
use Rattle.chain.proofs.Laws.{inserted_standing, popped_standing, cleared_standing}
use Rattle.model.specs.Sizes.{mailbox_limit, message_limit}
use Rattle.model.specs.Rows.{Key, task, suspension, queue, mailbox, message, same_key, valid, MessageRow, free, with_messages}
use Rattle.model.specs.Waits.{waiters_of}
use Rattle.model.proofs.Tests.{from_within, to_within}
use Rattle.model.proofs.RowMoves.{with_message_rows, freed}
use Rattle.parts.specs.Chains.{message_chains, tasks_in, messages_in}
use Rattle.parts.specs.Mailboxes.{mailbox_row}
use Rattle.parts.specs.declared.Mailbox.{Mailbox}
use Rattle.record.specs.declared.State.{State}
use Rattle.record.specs.Meaning.{zero_mailbox, mailbox_at, mailbox_of, keeps_priorities, message_row, cells_of, abs}
use Rattle.record.specs.Sound.{Readable}
use Rattle.record.specs.Step.{Becomes}
use Rattle.record.proofs.Rows.{row_is}
use Rattle.record.proofs.Standing.{messages_are, in_mailbox}
use Rattle.record.proofs.Laws.{with_mailbox, same_row, changed_row, two_rows, same_environment}
use Rattle.record.proofs.Laws as laws

-- ── The record's messages ──

-- A message that stands where it stood, with the key that it had, has the row that it had. One that stands nowhere is free.
module _ (mailboxes : List Mailbox) (key : List ℕ) (link link' : List ℕ) (g : ℕ) where
  same_message : (key' : List ℕ) → mailbox_of link' g ≡ mailbox_of link g → get_or key' g 0 ≡ get_or key g 0 → message_row link' key' mailboxes g ≡ message_row link key mailboxes g
  same_message key' e f = rw (e, f) refl

  free_message : mailbox_of link' g ≡ 0 → message_row link' key mailboxes g ≡ free
  free_message e = rw e refl

-- ── A chain of messages ──

module _ {s : State} (R : Readable s) (b : ℕ) (ok : T (valid (mailbox b))) where
  pub has_messages : HasChain message_limit message_chains b s.messages.link
  has_messages = let r = from_within 1 mailbox_limit b ok in record { sound = R.messages; low = r.0; high = r.1 }

  module _ (link key l : List ℕ) (d : Changed message_limit message_chains b s.messages.link link l) (size : length key ≡ key_cells) where
    abbrev changed : State
    changed = laws.with_messages (record { link = link; key = key }) s

    own : messages_in link b ≡ l
    unfolding messages_in
    own = new_list has_messages d

    others_kept : (j : ℕ) → j ≢ b → messages_in link j ≡ messages_in s.messages.link j
    unfolding messages_in
    others_kept j n = other_list has_messages d j n

    readable_messages : Readable changed
    readable_messages = record {
      sizes = record { tasks = R.sizes.tasks; queues = R.sizes.queues; mailboxes = R.sizes.mailboxes; task_keys = R.sizes.task_keys; message_keys = size };
      waiting = R.waiting;
      messages = d.sound;
      queues = R.queues;
      mailboxes = R.mailboxes;
    }

    -- The mailbox's row, and the rows of the other mailboxes.
    mailbox_changed : cells_of changed (mailbox b) ≡ with_messages l ((abs s).rows (mailbox b))
    mailbox_changed = rw (row_is s (mailbox b) ok, own) refl

    other_mailbox : (j : ℕ) → j ≢ b → cells_of changed (mailbox j) ≡ cells_of s (mailbox j)
    other_mailbox j n = rw (others_kept j n) refl

    -- One message g changes its row.
    message_changed : (g : ℕ) (v : MessageRow) → T (valid (message g)) → cells_of changed (message g) ≡ v → ((j : ℕ) → j ≢ g → cells_of changed (message j) ≡ cells_of s (message j))
        → Becomes s (update same_key (message g) v (update same_key (mailbox b) (with_messages l ((abs s).rows (mailbox b))) (abs s).rows)) changed
    message_changed g v valid_message new old = record {
      rows_are = two_rows s changed (mailbox b) (message g) _ v ok valid_message mailbox_changed new others;
      environment_is = same_environment _ _ refl;
      readable = readable_messages;
    }
      where
        others : (i : Key) → i ≢ mailbox b → i ≢ message g → T (valid i) → cells_of changed i ≡ cells_of s i
        others (task t) n o w = refl
        others (suspension t) n o w = refl
        others (queue q) n o w = refl
        others (mailbox j) n o w = other_mailbox j (λ e. n (ap mailbox e))
        others (message j) n o w = old j (λ e. o (ap message e))

  -- ── A message is put in ──

  module _ {g limit place : ℕ} {link : List ℕ} (rank : ℕ) (a : Insertable message_limit message_chains b g s.messages.link (set s.messages.key g rank))
      (p : Inserted message_limit message_chains b g limit s.messages.link (set s.messages.key g rank) link place) where
    standing_after : (j : ℕ) → mailbox_of link j ≡ cond (eqb j g) b (mailbox_of s.messages.link j)
    unfolding mailbox_of
    standing_after = inserted_standing a p

    -- Its key is kept where the mailbox goes by priority.
    pub message_inserted : Becomes s
        (update same_key (message g) (record { queued_in = b; priority = cond (keeps_priorities s.mailboxes b) rank 0 })
        (update same_key (mailbox b) (with_messages (insert_at place g (messages_in s.messages.link b)) ((abs s).rows (mailbox b))) (abs s).rows))
        (laws.with_messages (record { link = link; key = set s.messages.key g rank }) s)
    unfolding messages_in
    message_inserted =
        message_changed link (set s.messages.key g rank) _ p.changed a.keys_count g _ (to_within 1 message_limit g a.positive a.in_table) new old
      where
        new : message_row link (set s.messages.key g rank) s.mailboxes g ≡ record { queued_in = b; priority = cond (keeps_priorities s.mailboxes b) rank 0 }
        new =
            let e : mailbox_of link g ≡ b = standing_after g ∙ rw (eq-eqb g g refl) refl in
            let k : get_or (set s.messages.key g rank) g 0 ≡ rank = let h = a.in_table in let n = simp length-set at a.keys_count in get_or-set_same s.messages.key g rank 0 (omega arith) in
            rw (e, k) refl

        old : (j : ℕ) → j ≢ g → message_row link (set s.messages.key g rank) s.mailboxes j ≡ message_row s.messages.link s.messages.key s.mailboxes j
        old j n = same_message s.mailboxes s.messages.key s.messages.link link j (set s.messages.key g rank) (standing_after j ∙ rw (ne_eqb j g n) refl) (get_or-set_other s.messages.key g j rank 0 n)

  -- ── The head is taken out ──

  module _ {g : ℕ} {link : List ℕ} (p : Popped message_limit message_chains b s.messages.link link g) (valid_message : T (valid (message g))) where
    standing_popped : (j : ℕ) → mailbox_of link j ≡ cond (eqb j g) 0 (mailbox_of s.messages.link j)
    unfolding mailbox_of
    standing_popped = popped_standing has_messages p

    pub message_popped : Becomes s
        (update same_key (message g) free (update same_key (mailbox b) (with_messages (tail (messages_in s.messages.link b)) ((abs s).rows (mailbox b))) (abs s).rows))
        (laws.with_messages (record { link = link; key = s.messages.key }) s)
    unfolding messages_in
    message_popped = message_changed link s.messages.key _ p.changed R.sizes.message_keys g free valid_message
        (free_message s.mailboxes s.messages.key link link g (standing_popped g ∙ rw (eq-eqb g g refl) refl))
        (λ j n. same_message s.mailboxes s.messages.key s.messages.link link j s.messages.key (standing_popped j ∙ rw (ne_eqb j g n) refl) refl)

  -- ── All are taken out ──

  module _ {link : List ℕ} (d : Changed message_limit message_chains b s.messages.link link []) where
    abbrev emptied : State
    emptied = laws.with_messages (record { link = link; key = s.messages.key }) s

    standing_cleared : (j : ℕ) → mailbox_of link j ≡ cond (eqb (mailbox_of s.messages.link j) b) 0 (mailbox_of s.messages.link j)
    unfolding mailbox_of
    standing_cleared = cleared_standing has_messages d

    -- A message that isn't queued there stands in another chain, or in none.
    elsewhere : (g : ℕ) → (In g ((abs s).rows (mailbox b)).messages → ⊥) → mailbox_of s.messages.link g ≢ b
    unfolding mailbox_of messages_in
    elsewhere g f e = f (rw (messages_are s b ok) (stands_there g b _ e has_messages.low))

    message_freed : (g : ℕ) → (abs emptied).rows (message g) ≡ freed ((abs s).rows (mailbox b)).messages (abs s).rows g
    message_freed g = go (is_one_of g ((abs s).rows (mailbox b)).messages)
      where
        go : {x : Bool} → Whether (In g ((abs s).rows (mailbox b)).messages) x → (abs emptied).rows (message g) ≡ cond x free ((abs s).rows (message g))
        go (holds i) =
            let c = in_mailbox s R.messages b i in
            row_is emptied (message g) c.1
            ∙ free_message s.mailboxes s.messages.key link link g (standing_cleared g ∙ rw (c.0, eq-eqb b b refl) refl)
        go (fails f) = same_row s emptied (message g) (λ v.
            same_message s.mailboxes s.messages.key s.messages.link link g s.messages.key (standing_cleared g ∙ rw (ne_eqb _ b (elsewhere g f)) refl) refl)

    pub messages_cleared : Becomes s
        (update same_key (mailbox b) (with_messages [] ((abs s).rows (mailbox b))) (with_message_rows (freed ((abs s).rows (mailbox b)).messages (abs s).rows) (abs s).rows))
        emptied
    messages_cleared = record {
      rows_are = fun_ext (λ i. update_cases same_key (λ h x. (abs emptied).rows h ≡ x) (mailbox b) _ _
          (row_is emptied (mailbox b) ok ∙ mailbox_changed link s.messages.key [] d R.sizes.message_keys) i (others i));
      environment_is = same_environment _ _ refl;
      readable = readable_messages link s.messages.key [] d R.sizes.message_keys;
    }
      where
        others : (i : Key) → i ≢ mailbox b → (abs emptied).rows i ≡ with_message_rows (freed ((abs s).rows (mailbox b)).messages (abs s).rows) (abs s).rows i
        others (task t) n = same_row s emptied (task t) (λ v. refl)
        others (suspension t) n = same_row s emptied (suspension t) (λ v. refl)
        others (queue q) n = same_row s emptied (queue q) (λ v. refl)
        others (mailbox j) n = same_row s emptied (mailbox j) (λ v. other_mailbox link s.messages.key [] d R.sizes.message_keys j (λ e. n (ap mailbox e)))
        others (message g) n = message_freed g

    pub no_message_left : messages_in link b ≡ []
    no_message_left = own link s.messages.key [] d R.sizes.message_keys

  -- ── A mailbox where nobody waits and no message is queued ──

  module _ (y : Mailbox) (no_waiter : tasks_in s.waiting.link (waiters_of b) ≡ []) (no_message : messages_in s.messages.link b ≡ []) where
    mailbox_fits : b < length s.mailboxes
    mailbox_fits = let r = from_within 1 mailbox_limit b ok in let n = R.sizes.mailboxes in omega arith

    new_mailbox : mailbox_at (with_mailbox b y s) b ≡ y
    new_mailbox = get_or-set_same s.mailboxes b y zero_mailbox mailbox_fits

    other_mailboxes : (j : ℕ) → j ≢ b → mailbox_at (with_mailbox b y s) j ≡ mailbox_at s j
    other_mailboxes j n = get_or-set_other s.mailboxes b j y zero_mailbox n

    -- No message stands in it, so none is read with another attribute.
    not_here : (g : ℕ) → mailbox_of s.messages.link g ≢ b
    unfolding mailbox_of messages_in
    not_here g e = Memᴰ.not-nil (rw no_message at (stands_there g b _ e has_messages.low))

    pub mailbox_put : y.defined ≤ 1 → Becomes s (update same_key (mailbox b) (mailbox_row y [] []) (abs s).rows) (with_mailbox b y s)
    mailbox_put flag = record {
      rows_are = changed_row s (with_mailbox b y s) (mailbox b) _ ok (rw (new_mailbox, no_waiter, no_message) refl) others;
      environment_is = same_environment _ _ refl;
      readable = record {
        sizes = record { tasks = R.sizes.tasks; queues = R.sizes.queues; mailboxes = length-set s.mailboxes b y ∙ R.sizes.mailboxes; task_keys = R.sizes.task_keys; message_keys = R.sizes.message_keys };
        waiting = R.waiting;
        messages = R.messages;
        queues = R.queues;
        mailboxes = λ j v. elim (ℕ_discrete j b) [
          | yes e ↦ rw (e, new_mailbox) flag
          | no n ↦ rw (other_mailboxes j n) (R.mailboxes j v)
        ];
      };
    }
      where
        others : (j : Key) → j ≢ mailbox b → T (valid j) → cells_of (with_mailbox b y s) j ≡ cells_of s j
        others (task t) n v = refl
        others (suspension t) n v = refl
        others (queue q) n v = refl
        others (mailbox j) n v = rw (other_mailboxes j (λ e. n (ap mailbox e))) refl
        others (message g) n v = rw (other_mailboxes (mailbox_of s.messages.link g) (not_here g)) refl
