-- Two sound records mean the same exactly when they agree on what document 01 lists: row by row, where what isn't kept reads as 0 on both sides.
use mathlib.Core.Path.{◌≡◌, refl, sym, ap, ◌∙◌, subst, fun_ext}
use mathlib.Core.Bool.{Bool, true, false, not, cond}
use mathlib.Core.List.{List, []}
use Prim.Native.Nat.{ℕ, zero, suc, ◌<◌}
use native.Mathlib.Omega.{arith}
use lib.Dec.{T, T_not}
use lib.ListN.{get_or, length}
use lib.Seq.{ext_get_or}
use Rattle.lists.specs.Lists.{one_of}
use Rattle.chain.specs.Table.{chain_of}
use Rattle.chain.proofs.Table.{length_lists, list_none}
use Rattle.model.specs.Sizes.{mailbox_limit, message_limit}
use Rattle.model.specs.Rows.{Key, task, suspension, queue, mailbox, message, valid, TaskRow, QueueRow, MailboxRow, MessageRow, Model, messages_by_priority, nothing}
use Rattle.model.specs.Engine.{Lawful}
use Rattle.model.specs.Waits.{WaitQueue, object_of, senders_of, receivers_of, waiters_of}
use Rattle.model.specs.declared.Wait.TheVariants.{NoWait}
use Rattle.model.proofs.Choices.{cond_no, cond_yes}
use Rattle.parts.specs.Chains.{message_chains, tasks_in, messages_in}
use Rattle.parts.specs.Tasks.{task_row, read_code, code_byte}
use Rattle.parts.specs.Queues.{queue_row, is_defined}
use Rattle.parts.specs.Mailboxes.{kept_attribute, mailbox_row}
use Rattle.parts.specs.declared.Task.{Task}
use Rattle.parts.specs.declared.Queue.{Queue}
use Rattle.parts.specs.declared.Mailbox.{Mailbox}
use Rattle.parts.proofs.Codes.{read_again}
use Rattle.model.specs.WellFormed.{ends_a_wait}
use Rattle.model.proofs.Tests.{to_within}
use Rattle.record.specs.declared.State.{State}
use Rattle.record.specs.Meaning.{task_at, queue_at, mailbox_at, mailbox_of, keeps_priorities, cells_of, abs}
use Rattle.record.specs.Sound.{Sound}
use Rattle.record.specs.Equal.{SameTask, SameQueue, SameMailbox, SameState, EqualStates}
use Rattle.record.specs.Step.{state_engine}
use Rattle.record.proofs.Rows.{passes_or_not, row_is}
use Rattle.record.proofs.Standing.{message_lists}
use Rattle.record.proofs.Parts.{Parts, sound_parts}

-- ── Choices ──

-- What is kept on both sides alike, if at all, is the same; and the other way round.
kept_same : {X : Type 0} (b c : Bool) (x y d : X) → b ≡ c → (T b → x ≡ y) → cond b x d ≡ cond c y d
kept_same b c x y d e h = subst (λ c. cond b x d ≡ cond c y d) e (go b h)
  where
    go : (b : Bool) → (T b → x ≡ y) → cond b x d ≡ cond b y d
    go true h = h tt
    go false h = refl

same_kept : {X : Type 0} (b c : Bool) (x y d : X) → b ≡ c → cond b x d ≡ cond c y d → T b → x ≡ y
same_kept b c x y d e h t = sym (cond_yes b x d t) ∙ (h ∙ cond_yes c y d (subst T e t))

-- ── Rows of the parts that agree ──

module _ {x y : Task} {p q : ℕ} (e : SameTask x y p q) (idle : T (not x.defined) → x.wait ≡ NoWait) (idle' : T (not y.defined) → y.wait ≡ NoWait) where
  task_row_same : task_row x p ≡ task_row y q
  task_row_same =
      let d = e.existence in
      let wait : x.wait ≡ y.wait = passes_or_not x.defined e.wait (λ n. idle n ∙ sym (idle' (subst (λ b. T (not b)) d n))) in
      cc (d, kept_same x.defined y.defined p q 0 d e.priority, wait, kept_same x.defined y.defined (read_code x.code) (read_code y.code) _ d (λ k. ap read_code (e.stored_code k)), kept_same x.defined y.defined x.word y.word 0 d e.stored_word)

  -- Neither is suspended where neither is defined.
  suspension_same : (T x.suspended → T x.defined) → (T y.suspended → T y.defined) → x.suspended ≡ y.suspended
  suspension_same h h' = passes_or_not x.defined e.suspension (λ n. off x.suspended (λ t. T_not x.defined n (h t)) ∙ sym (off y.suspended (λ t. T_not y.defined (subst (λ b. T (not b)) e.existence n) (h' t))))
    where
      off : (b : Bool) → (T b → ⊥) → b ≡ false
      off true f = absurd (f tt)
      off false f = refl

queue_row_same : {x y : Queue} {l l' r r' : List ℕ} → SameQueue x y → l ≡ l' → r ≡ r' → queue_row x l r ≡ queue_row y l' r'
queue_row_same {x} {y} e s r =
    let d = e.existence in
    cc (d, kept_same (is_defined x.defined) (is_defined y.defined) x.attribute y.attribute 0 d e.attribute, kept_same (is_defined x.defined) (is_defined y.defined) x.ring.capacity y.ring.capacity 0 d e.capacity, e.words, s, r)

module _ {x y : Mailbox} (e : SameMailbox x y) where
  attribute_same : kept_attribute x ≡ kept_attribute y
  attribute_same = kept_same (is_defined x.defined) (is_defined y.defined) x.attribute y.attribute 0 e.existence e.attribute

  mailbox_row_same : {l l' r r' : List ℕ} → l ≡ l' → r ≡ r' → mailbox_row x l r ≡ mailbox_row y l' r'
  unfolding one_of
  mailbox_row_same s r = cc (e.existence, attribute_same, kept_same (messages_by_priority (kept_attribute x)) (messages_by_priority (kept_attribute y)) x.highest y.highest 0 (ap messages_by_priority attribute_same) highest, s, r)
    where
      highest : T (messages_by_priority (kept_attribute x)) → x.highest ≡ y.highest
      highest o = passes_or_not (is_defined x.defined)
          (λ t. e.highest t (subst (λ a. T (messages_by_priority a)) (cond_yes (is_defined x.defined) x.attribute 0 t) o))
          (λ n. absurd (subst (λ a. T (messages_by_priority a)) (cond_no (is_defined x.defined) x.attribute 0 n) o))

-- ── Records that agree mean the same ──

module _ (s u : State) (S : Sound s) (U : Sound u) (e : SameState s u) where
  p : Parts s
  p = sound_parts s S

  p' : Parts u
  p' = sound_parts u U

  message_lists_same : message_lists s ≡ message_lists u
  unfolding messages_in
  message_lists_same = ext_get_or [] (message_lists s) (message_lists u) (length_lists message_limit message_chains s.messages.link ∙ sym (length_lists message_limit message_chains u.messages.link)) at
    where
      at : (b : ℕ) → b < length (message_lists s) → get_or (message_lists s) b [] ≡ get_or (message_lists u) b []
      at zero h = list_none message_limit message_chains s.messages.link ∙ sym (list_none message_limit message_chains u.messages.link)
      at (suc b) h =
          let n = length_lists message_limit message_chains s.messages.link in
          e.message_queues (suc b) (to_within 1 mailbox_limit (suc b) (omega arith) (omega arith))

  mailbox_of_same : (g : ℕ) → mailbox_of s.messages.link g ≡ mailbox_of u.messages.link g
  unfolding mailbox_of
  mailbox_of_same g = ap (chain_of g) message_lists_same

  keeps_same : (b : ℕ) → keeps_priorities s.mailboxes b ≡ keeps_priorities u.mailboxes b
  keeps_same b = kept_same (valid (mailbox b)) (valid (mailbox b)) _ _ false refl (λ v. ap messages_by_priority (attribute_same (e.mailboxes b v)))

  cells_same : (k : Key) → T (valid k) → cells_of s k ≡ cells_of u k
  cells_same (task t) v = task_row_same (e.tasks t v) (p.tasks t v).row.undefined (p'.tasks t v).row.undefined
  cells_same (suspension t) v = suspension_same (e.tasks t v) (p.tasks t v).row.undefined (p'.tasks t v).row.undefined (p.tasks t v).suspension (p'.tasks t v).suspension
  cells_same (queue q) v = queue_row_same (e.queues q v) (e.wait_queues (senders_of q) v) (e.wait_queues (receivers_of q) v)
  cells_same (mailbox b) v = mailbox_row_same (e.mailboxes b v) (e.wait_queues (waiters_of b) v) (e.message_queues b v)
  cells_same (message g) v = cc (mailbox_of_same g, kept_same (keeps_priorities s.mailboxes (mailbox_of s.messages.link g)) (keeps_priorities u.mailboxes (mailbox_of u.messages.link g)) (get_or s.messages.key g 0) (get_or u.messages.key g 0) 0 (keeps_same (mailbox_of s.messages.link g) ∙ ap (keeps_priorities u.mailboxes) (mailbox_of_same g)) (e.kept_priorities g v))

  rows_same : (k : Key) → (abs s).rows k ≡ (abs u).rows k
  unfolding abs
  rows_same k = kept_same (valid k) (valid k) (cells_of s k) (cells_of u k) (nothing k) refl (cells_same k)

  same_means : abs s ≡ abs u
  unfolding abs
  same_means = cc (e.counter, fun_ext rows_same)

-- ── Records that mean the same agree ──

-- The stored code of a task that is defined has the number that it is read from.
kept_number : (s : State) → Sound s → (t : ℕ) → T (valid (task t)) → T (task_at s t).defined → code_byte (read_code (task_at s t).code) ≡ (task_at s t).code
kept_number s S t v d = read_again (task_at s t).code (subst (λ c. T (ends_a_wait c)) (cond_yes (task_at s t).defined _ _ d) ((sound_parts s S).tasks t v).row.code)

module _ (s u : State) (S : Sound s) (U : Sound u) (e : abs s ≡ abs u) where
  cells : (k : Key) → T (valid k) → cells_of s k ≡ cells_of u k
  cells k v = sym (row_is s k v) ∙ (ap (λ (m : Model). m.rows k) e ∙ row_is u k v)

  means_task : (t : ℕ) → T (valid (task t)) → SameTask (task_at s t) (task_at u t) (get_or s.waiting.key t 0) (get_or u.waiting.key t 0)
  means_task t v =
      let c = cells (task t) v in
      let d = ap (λ (x : TaskRow). x.defined) c in
      record {
        existence = d;
        priority = same_kept (task_at s t).defined (task_at u t).defined _ _ 0 d (ap (λ (x : TaskRow). x.priority) c);
        wait = λ h. ap (λ (x : TaskRow). x.wait) c;
        suspension = λ h. cells (suspension t) v;
        stored_code = λ h.
            let same = same_kept (task_at s t).defined (task_at u t).defined _ _ _ d (ap (λ (x : TaskRow). x.code) c) h in
            sym (kept_number s S t v h) ∙ (ap code_byte same ∙ kept_number u U t v (subst T d h));
        stored_word = same_kept (task_at s t).defined (task_at u t).defined _ _ 0 d (ap (λ (x : TaskRow). x.word) c);
      }

  means_queue : (q : ℕ) → T (valid (queue q)) → SameQueue (queue_at s q) (queue_at u q)
  means_queue q v =
      let c = cells (queue q) v in
      let d = ap (λ (x : QueueRow). x.defined) c in
      record {
        existence = d;
        attribute = same_kept (is_defined (queue_at s q).defined) (is_defined (queue_at u q).defined) _ _ 0 d (ap (λ (x : QueueRow). x.attribute) c);
        capacity = same_kept (is_defined (queue_at s q).defined) (is_defined (queue_at u q).defined) _ _ 0 d (ap (λ (x : QueueRow). x.capacity) c);
        words = ap (λ (x : QueueRow). x.words) c;
      }

  means_mailbox : (b : ℕ) → T (valid (mailbox b)) → SameMailbox (mailbox_at s b) (mailbox_at u b)
  means_mailbox b v =
      let c = cells (mailbox b) v in
      let d = ap (λ (x : MailboxRow). x.defined) c in
      let a = ap (λ (x : MailboxRow). x.attribute) c in
      record {
        existence = d;
        attribute = same_kept (is_defined (mailbox_at s b).defined) (is_defined (mailbox_at u b).defined) _ _ 0 d a;
        highest = λ t o. same_kept (messages_by_priority (kept_attribute (mailbox_at s b))) (messages_by_priority (kept_attribute (mailbox_at u b))) _ _ 0 (ap messages_by_priority a) (ap (λ (x : MailboxRow). x.highest) c)
            (subst (λ n. T (messages_by_priority n)) (sym (cond_yes (is_defined (mailbox_at s b).defined) _ 0 t)) o);
      }

  means_wait_queue : (k : WaitQueue) → T (valid (object_of k)) → tasks_in s.waiting.link k ≡ tasks_in u.waiting.link k
  means_wait_queue (senders_of q) v = ap (λ (x : QueueRow). x.senders) (cells (queue q) v)
  means_wait_queue (receivers_of q) v = ap (λ (x : QueueRow). x.receivers) (cells (queue q) v)
  means_wait_queue (waiters_of b) v = ap (λ (x : MailboxRow). x.waiters) (cells (mailbox b) v)

  means_priority : (g : ℕ) → T (valid (message g)) → T (keeps_priorities s.mailboxes (mailbox_of s.messages.link g)) → get_or s.messages.key g 0 ≡ get_or u.messages.key g 0
  means_priority g v = same_kept (keeps_priorities s.mailboxes (mailbox_of s.messages.link g)) (keeps_priorities u.mailboxes (mailbox_of u.messages.link g)) _ _ 0 keeps (ap (λ (x : MessageRow). x.priority) (cells (message g) v))
    where
      keeps : keeps_priorities s.mailboxes (mailbox_of s.messages.link g) ≡ keeps_priorities u.mailboxes (mailbox_of u.messages.link g)
      keeps = kept_same (valid (mailbox (mailbox_of s.messages.link g))) (valid (mailbox (mailbox_of s.messages.link g))) _ _ false refl (λ w. ap messages_by_priority (ap (λ (x : MailboxRow). x.attribute) (cells (mailbox (mailbox_of s.messages.link g)) w)))
          ∙ ap (keeps_priorities u.mailboxes) (ap (λ (x : MessageRow). x.queued_in) (cells (message g) v))

  means_same : SameState s u
  unfolding abs
  means_same = record {
    counter = ap (λ (m : Model). m.environment.counter) e;
    tasks = means_task;
    queues = means_queue;
    mailboxes = means_mailbox;
    wait_queues = means_wait_queue;
    message_queues = λ b v. ap (λ (x : MailboxRow). x.messages) (cells (mailbox b) v);
    kept_priorities = means_priority;
  }

pub equal_states : EqualStates
equal_states s u S U = (same_means s u S U, means_same s u S U)

-- So the demands' theorems hold of the record.
pub state_lawful : Lawful state_engine
state_lawful = record { well_formed = λ s S. S.well_formed; equal_states = equal_states }
