-- What is read of the rows when one row or one wait queue has changed: row by row of a kind, and with the wait queues given by a function, so that every other
-- part of a row is read by computing.
use mathlib.Core.Path.{◌≡◌, refl, sym, ◌∙◌, ap, fun_ext, path_j', subst}
use mathlib.Core.Bool.{Bool, not}
use mathlib.Core.List.{List}
use mathlib.Core.Logic.{◌≢◌}
use Prim.Native.Nat.{ℕ}
use native.Mathlib.Decide.{ℕ_discrete}
use lib.Dec.{T, T_not}
use Rattle.rows.specs.Program as Program
use Rattle.rows.specs.Program.{update}
use Rattle.rows.proofs.Update.{update_same, update_other, update_cases}
use Rattle.model.specs.Rows.{Key, task, suspension, queue, mailbox, message, same_key, valid, Row, TaskRow, QueueRow, MailboxRow, MessageRow, nothing, with_senders, with_receivers, with_waiters}
use Rattle.model.specs.Waits.{WaitQueue, senders_of, receivers_of, waiters_of, WaitQueue_discrete}
use Rattle.model.specs.WaitQueues.{standing_in, set_standing}

-- Decides whether two wait queues are the same.
unfoldable pub same_queue : Discrete WaitQueue
same_queue = WaitQueue_discrete ℕ_discrete

-- A function with one value changed.
abbrev pub changed : {K X : Type 0} → Discrete K → K → X → (K → X) → K → X
changed {X = X} same k x f = update {Row = λ j. X} same k x f

-- What holds of the new row, and of every other row of its kind as it was, holds of every row of the kind.
module _ (key : ℕ → Key) (one_to_one : (i j : ℕ) → key i ≡ key j → i ≡ j) where
  row_cases : (P : (n : ℕ) → Row (key n) → Type 0) (n : ℕ) (v : Row (key n)) (m : Program.Rows Row) → P n v → (j : ℕ) → (j ≢ n → P j (m (key j))) → P j (update same_key (key n) v m (key j))
  row_cases P n v m p j h = go (ℕ_discrete j n)
    where
      go : Dec (j ≡ n) → P j (update same_key (key n) v m (key j))
      go (yes e) = path_j' (λ i q. P i (update same_key (key n) v m (key i))) (subst (P n) (sym (update_same same_key (key n) v m)) p) e
      go (no d) = subst (P j) (sym (update_other same_key (key n) v m (key j) (λ e. d (one_to_one j n e)))) (h d)

module _ (n : ℕ) (m : Program.Rows Row) where
  pub task_cases : (P : ℕ → TaskRow → Type 0) (v : TaskRow) → P n v → (j : ℕ) → (j ≢ n → P j (m (task j))) → P j (update same_key (task n) v m (task j))
  task_cases P v = row_cases task (λ i j e. cc) P n v m

  pub suspension_cases : (P : ℕ → Bool → Type 0) (v : Bool) → P n v → (j : ℕ) → (j ≢ n → P j (m (suspension j))) → P j (update same_key (suspension n) v m (suspension j))
  suspension_cases P v = row_cases suspension (λ i j e. cc) P n v m

  pub queue_cases : (P : ℕ → QueueRow → Type 0) (v : QueueRow) → P n v → (j : ℕ) → (j ≢ n → P j (m (queue j))) → P j (update same_key (queue n) v m (queue j))
  queue_cases P v = row_cases queue (λ i j e. cc) P n v m

  pub mailbox_cases : (P : ℕ → MailboxRow → Type 0) (v : MailboxRow) → P n v → (j : ℕ) → (j ≢ n → P j (m (mailbox j))) → P j (update same_key (mailbox n) v m (mailbox j))
  mailbox_cases P v = row_cases mailbox (λ i j e. cc) P n v m

  pub message_cases : (P : ℕ → MessageRow → Type 0) (v : MessageRow) → P n v → (j : ℕ) → (j ≢ n → P j (m (message j))) → P j (update same_key (message n) v m (message j))
  message_cases P v = row_cases message (λ i j e. cc) P n v m

-- Of two rows put at one key the second stays.
pub put_twice : (k : Key) (u v : Row k) (m : Program.Rows Row) → update same_key k v (update same_key k u m) ≡ update same_key k v m
put_twice k u v m = fun_ext (λ j. update_cases same_key (λ i y. y ≡ update same_key k v m i) k v (update same_key k u m) (sym (update_same same_key k v m)) j
    (λ n. update_other same_key k u m j n ∙ sym (update_other same_key k v m j n)))

-- Nothing stands beyond the limits after a valid row was put.
pub put_in_range : {m : Program.Rows Row} → ((k : Key) → T (not (valid k)) → m k ≡ nothing k) → (k : Key) (v : Row k) → T (valid k)
    → (j : Key) → T (not (valid j)) → update same_key k v m j ≡ nothing j
put_in_range {m} h k v t j = update_cases same_key (λ i x. T (not (valid i)) → x ≡ nothing i) k v m (λ n. absurd (T_not (valid k) n t)) j (λ d. h j)

-- ── Wait queues ──

-- The rows with these wait queues.
abbrev pub with_standing : (WaitQueue → List ℕ) → Program.Rows Row → Program.Rows Row
with_standing lists m (task t) = m (task t)
with_standing lists m (suspension t) = m (suspension t)
with_standing lists m (queue q) = with_receivers (lists (receivers_of q)) (with_senders (lists (senders_of q)) (m (queue q)))
with_standing lists m (mailbox b) = with_waiters (lists (waiters_of b)) (m (mailbox b))
with_standing lists m (message g) = m (message g)

pub set_standing_is : (c : WaitQueue) (l : List ℕ) (m : Program.Rows Row) → set_standing c l m ≡ with_standing (changed same_queue c l (standing_in m)) m
unfolding set_standing same_queue same_key update
set_standing_is c l m = fun_ext (same c)
  where
    new : {X : Type 0} (f : List ℕ → X) (d : WaitQueue) → f l ≡ f (changed same_queue d l (standing_in m) d)
    new f d = ap f (sym (update_same same_queue d l (standing_in m)))

    old : {X : Type 0} (f : List ℕ → X) (d e : WaitQueue) → d ≢ e → f (standing_in m d) ≡ f (changed same_queue e l (standing_in m) d)
    old f d e n = ap f (sym (update_other same_queue e l (standing_in m) d n))

    same : (c : WaitQueue) (k : Key) → set_standing c l m k ≡ with_standing (changed same_queue c l (standing_in m)) m k
    same (senders_of q) (task t) = refl
    same (senders_of q) (suspension t) = refl
    same (senders_of q) (queue j) =
        queue_cases q m (λ i x. x ≡ with_senders (changed same_queue (senders_of q) l (standing_in m) (senders_of i)) (m (queue i))) _
        (new (λ r. with_senders r (m (queue q))) (senders_of q)) j (λ n. old (λ r. with_senders r (m (queue j))) (senders_of j) (senders_of q) (λ e. n (cc)))
    same (senders_of q) (mailbox b) = refl
    same (senders_of q) (message g) = refl
    same (receivers_of q) (task t) = refl
    same (receivers_of q) (suspension t) = refl
    same (receivers_of q) (queue j) =
        queue_cases q m (λ i x. x ≡ with_receivers (changed same_queue (receivers_of q) l (standing_in m) (receivers_of i)) (m (queue i))) _
        (new (λ r. with_receivers r (m (queue q))) (receivers_of q)) j (λ n. old (λ r. with_receivers r (m (queue j))) (receivers_of j) (receivers_of q) (λ e. n (cc)))
    same (receivers_of q) (mailbox b) = refl
    same (receivers_of q) (message g) = refl
    same (waiters_of b) (task t) = refl
    same (waiters_of b) (suspension t) = refl
    same (waiters_of b) (queue q) = refl
    same (waiters_of b) (mailbox j) =
        mailbox_cases b m (λ i x. x ≡ with_waiters (changed same_queue (waiters_of b) l (standing_in m) (waiters_of i)) (m (mailbox i))) _
        (new (λ r. with_waiters r (m (mailbox b))) (waiters_of b)) j (λ n. old (λ r. with_waiters r (m (mailbox j))) (waiters_of j) (waiters_of b) (λ e. n (cc)))
    same (waiters_of b) (message g) = refl
