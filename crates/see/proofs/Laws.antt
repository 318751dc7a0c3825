-- What is seen of the cells of the numbers that a call names is what the call has in view: kind by kind, by the decision whether the number is valid.
use mathlib.Core.Path.{◌≡◌, refl, sym, ap, ◌∙◌, subst}
use mathlib.Core.Bool.{Bool, true, false, cond}
use mathlib.Core.List.Memᴰ.{head as here}
use mathlib.Core.List.{List, [], ◌∷◌, head_d, Memᴰ as In}
use Prim.Native.Nat.{ℕ, ◌+◌, ◌<◌}
use native.Mathlib.Omega.{arith}
use lib.Dec.{T, eqb}
use lib.ListN.{length, get_or}
use borrow.Author.Tests.{ne_eqb}
use Rattle.lists.specs.Lists.{empty}
use Rattle.rows.specs.Program as Program
use Rattle.chain.specs.Table.{lists}
use Rattle.chain.specs.Table as chain
use Rattle.chain.proofs.Table.{member_range}
use Rattle.ring.specs.Ring.{stored}
use Rattle.errors.specs.Seen.{ShowsQueue, ShowsMailbox, Shows, SeenFor}
use Rattle.errors.specs.declared.Seen.{Seen}
use Rattle.model.specs.Sizes.{within}
use Rattle.model.specs.Rows.{task, suspension, queue, mailbox, message, Row, messages_by_priority}
use Rattle.model.specs.Calls.{row_if_valid, names_task, reads_suspension, task_named, suspension_named, queue_named, mailbox_named, message_named}
use Rattle.model.specs.declared.Call.{Call}
use Rattle.parts.specs.Chains.{tasks_in, messages_in}
use Rattle.model.specs.declared.Code.{Code}
use Rattle.model.specs.declared.Code.TheVariants.{Ok}
use Rattle.parts.specs.Tasks.{read_code}
use Rattle.parts.specs.Queues.{is_defined}
use Rattle.parts.specs.Mailboxes.{kept_attribute}
use Rattle.model.proofs.Choices.{cond_yes}
use Rattle.model.proofs.Step.{view_is}
use Rattle.model.proofs.Accepted.{reads_named}
use Rattle.record.specs.declared.State.{State}
use Rattle.record.specs.Meaning.{task_at, queue_at, mailbox_at, mailbox_of, abs}
use Rattle.record.specs.Sound.{Sound}
use Rattle.std.specs.Prelude.{Option, Some, None, is_some}
use Rattle.lists.specs.Tests.{Whether, holds, fails}
use Rattle.see.specs.Shown.{TaskShown, SeenWhere}

-- ── What is seen of one row ──

-- A chain has no first number exactly where it is empty.
head_empty : {numbers chains : ℕ} {link : List ℕ} → chain.Sound numbers chains link → (k : ℕ) {x : ℕ} → x ≡ head_d (get_or (lists numbers chains link) k []) 0 → eqb x 0 ≡ empty (get_or (lists numbers chains link) k [])
unfolding head_d empty
head_empty {numbers} {chains} {link} H k {x} e = go (get_or (lists numbers chains link) k []) e (λ y i. (member_range H k i).0)
  where
    go : (l : List ℕ) → x ≡ head_d l 0 → ((y : ℕ) → In y l → 0 < y) → eqb x 0 ≡ empty l
    go [] e positive = rw e refl
    go (y ∷ l) e positive = rw e (ne_eqb y 0 (λ z. let h = positive y (here refl) in omega arith))

-- What is kept of something only where it is defined.
pub kept : {A : Type 0} {flag : ℕ} (x y : A) {z : A} → flag ≡ 1 → z ≡ x → z ≡ cond (is_defined flag) x y
kept x y e h = rw e h

pub not_kept : {A : Type 0} {flag : ℕ} (x y : A) {z : A} → (flag ≡ 1 → ⊥) → z ≡ y → z ≡ cond (is_defined flag) x y
not_kept {A} {flag} x y f h = rw (ne_eqb flag 1 f) h

first_is : (b : Bool) (x y : ℕ) → (cond {A = ℕ × ℕ} b (x, y) (0, 0)).0 ≡ cond b x 0
first_is true x y = refl
first_is false x y = refl

second_is : (b : Bool) (x y : ℕ) → (cond {A = ℕ × ℕ} b (x, y) (0, 0)).1 ≡ cond b y 0
second_is true x y = refl
second_is false x y = refl

-- The row of a number says nothing where the number isn't valid, and what its cells say where it is.
module _ (s : State) (n : ℕ) where
  module _ (e : within 1 32 n ≡ true) where
    pub undefined_task_seen : (task_at s n).defined ≡ false → TaskShown (row_if_valid (abs s).rows (task n)) (row_if_valid (abs s).rows (suspension n))
        (record { defined = false; suspended = (task_at s n).suspended; wait = (task_at s n).wait; code = Ok; word = 0 })
    unfolding abs
    undefined_task_seen d = rw (e, d) (record { shows = record { defined = refl; wait = refl; code = refl; word = refl }; suspended = refl })

    pub defined_task_seen : {code : Code} → (task_at s n).defined ≡ true → code ≡ read_code (task_at s n).code
        → TaskShown (row_if_valid (abs s).rows (task n)) (row_if_valid (abs s).rows (suspension n))
        (record { defined = true; suspended = (task_at s n).suspended; wait = (task_at s n).wait; code = code; word = (task_at s n).word })
    unfolding abs
    defined_task_seen d c = rw (e, d) (record { shows = record { defined = refl; wait = refl; code = c; word = refl }; suspended = refl })

  pub no_queue_seen : within 1 16 n ≡ false
      → ShowsQueue (row_if_valid (abs s).rows (queue n)) (record { defined = false; attribute = 0; capacity = 0; count = 0; sender = 0; receiver = 0 })
  unfolding abs empty head_d
  no_queue_seen e = rw e (record { defined = refl; attribute = refl; capacity = refl; count = refl; sender = refl; no_sender = refl; receiver = refl; no_receiver = refl })

  pub queue_seen : {numbers : ℕ × ℕ} {sender receiver count : ℕ} → Sound s → within 1 16 n ≡ true
      → sender ≡ head_d (get_or (lists 32 48 s.waiting.link) n []) 0 → receiver ≡ head_d (get_or (lists 32 48 s.waiting.link) (16 + n) []) 0
      → numbers ≡ cond (is_defined (queue_at s n).defined) ((queue_at s n).attribute, (queue_at s n).ring.capacity) (0, 0) → count ≡ length (stored (queue_at s n).ring)
      → ShowsQueue (row_if_valid (abs s).rows (queue n))
      (record { defined = is_defined (queue_at s n).defined; attribute = numbers.0; capacity = numbers.1; count = count; sender = sender; receiver = receiver })
  unfolding abs tasks_in
  queue_seen S e h r p c = let H = S.readable.waiting in rw e (record {
    defined = refl;
    attribute = ap (λ (x : ℕ × ℕ). x.0) p ∙ first_is (is_defined (queue_at s n).defined) _ _;
    capacity = ap (λ (x : ℕ × ℕ). x.1) p ∙ second_is (is_defined (queue_at s n).defined) _ _;
    count = c;
    sender = h;
    no_sender = head_empty H n h;
    receiver = r;
    no_receiver = head_empty H (16 + n) r;
  })

  pub no_mailbox_seen : within 1 16 n ≡ false
      → ShowsMailbox (row_if_valid (abs s).rows (mailbox n)) (record { defined = false; attribute = 0; highest = 0; waiter = 0; message = 0 })
  unfolding abs empty head_d
  no_mailbox_seen e = rw e (record { defined = refl; attribute = refl; highest = refl; waiter = refl; no_waiter = refl; message = refl; no_message = refl })

  pub mailbox_seen : {waiter message attribute highest : ℕ} → Sound s → within 1 16 n ≡ true
      → waiter ≡ head_d (get_or (lists 32 48 s.waiting.link) (32 + n) []) 0 → message ≡ head_d (get_or (lists 64 16 s.messages.link) n []) 0
      → attribute ≡ kept_attribute (mailbox_at s n) → highest ≡ cond (messages_by_priority attribute) (mailbox_at s n).highest 0
      → ShowsMailbox (row_if_valid (abs s).rows (mailbox n))
      (record { defined = is_defined (mailbox_at s n).defined; attribute = attribute; highest = highest; waiter = waiter; message = message })
  unfolding abs tasks_in messages_in
  mailbox_seen S e w m a h = rw e (record {
    defined = refl;
    attribute = a;
    highest = rw a at h;
    waiter = w;
    no_waiter = head_empty S.readable.waiting (32 + n) w;
    message = m;
    no_message = head_empty S.readable.messages n m;
  })

  pub message_seen : {chain : ℕ} → within 1 64 n ≡ true → chain ≡ mailbox_of s.messages.link n → eqb chain 0 ≡ eqb (row_if_valid (abs s).rows (message n)).queued_in 0
  unfolding abs
  message_seen e c = rw (e, c) refl

-- ── All that a call has in view ──

-- The suspension that a call reads is that of the task it names.
suspension_read : (m : Program.Rows Row) (c : Call) → T (reads_suspension c) → row_if_valid m (suspension (task_named c)) ≡ row_if_valid m (suspension (suspension_named c))
suspension_read m c t = ap (λ n. row_if_valid m (suspension n)) (cond_yes (names_task c) c.object 0 (reads_named c t) ∙ sym (cond_yes (reads_suspension c) c.object 0 t))

pub sees : (s : State) (c : Call) {y : Seen}
    → TaskShown (row_if_valid (abs s).rows (task c.caller)) (row_if_valid (abs s).rows (suspension c.caller)) y.caller
    → TaskShown (row_if_valid (abs s).rows (task (task_named c))) (row_if_valid (abs s).rows (suspension (task_named c))) y.task
    → ShowsQueue (row_if_valid (abs s).rows (queue (queue_named c))) y.queue
    → ShowsMailbox (row_if_valid (abs s).rows (mailbox (mailbox_named c))) y.mailbox
    → y.message_free ≡ eqb (row_if_valid (abs s).rows (message (message_named c))).queued_in 0
    → y.counter ≡ s.counter
    → SeenFor (abs s) c y
unfolding abs
sees s c {y} e f g h i counter = record {
  shows = subst (λ v. Shows v c y) (sym (view_is (abs s) c)) (record {
    caller = e.shows;
    caller_suspended = e.suspended;
    task = f.shows;
    suspended = λ t. f.suspended ∙ suspension_read (abs s).rows c t;
    queue = g;
    mailbox = h;
    free = i;
  });
  suspended = f.suspended;
  counter = counter;
}

-- Something is seen exactly of a sound record.
pub seen_of_sound : {s : State} (c : Call) (r : Option Seen) → SeenWhere s c r → Whether (Sound s) (is_some r)
seen_of_sound c None f = fails f
seen_of_sound c (Some y) h = holds h.0
