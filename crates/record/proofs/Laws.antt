-- How the meaning of a record follows its changes: a changed task, data queue, mailbox or chain is one changed row. Row by row, the others being read from cells that are as they were.
use mathlib.Core.Path.{◌≡◌, refl, ap, ◌∙◌, fun_ext}
use mathlib.Core.Bool.{Bool, true, false, cond}
use mathlib.Core.List.{List}
use mathlib.Core.Logic.{◌≢◌}
use Prim.Native.Nat.{ℕ, ◌<◌}
use native.Mathlib.Omega.{arith}
use native.Mathlib.Decide.{ℕ_discrete}
use lib.Dec.{T}
use lib.ListN.{length, get_or, set, length-set}
use lib.Seq.{get_or-set_same, get_or-set_other}
use Rattle.rows.specs.Program as Program
use Rattle.rows.specs.Program.{return, update, run}
use Rattle.rows.proofs.Update.{update_cases}
use Rattle.chain.specs.Changes.{HasChain, Changed}
use Rattle.chain.specs.declared.Chains.{Chains}
use Rattle.chain.proofs.Standing.{new_list, other_list}
use Rattle.model.specs.Sizes.{task_limit, queue_limit}
use Rattle.model.specs.Rows.{Key, task, suspension, queue, mailbox, message, same_key, valid, Row, Environment, Effect, nothing}
use Rattle.model.specs.Codes.{values}
use Rattle.model.specs.Engine.{RefusedWith}
use Rattle.model.specs.Waits.{WaitQueue, senders_of, receivers_of, waiters_of, object_of}
use Rattle.model.specs.WaitQueues.{set_standing}
use Rattle.model.specs.Engine as engine
use Rattle.model.specs.declared.Answer.{Answer}
use Rattle.model.specs.declared.Code.{Code}
use Rattle.model.proofs.After.{After, after_return}
use Rattle.model.proofs.Tests.{from_within}
use Rattle.parts.specs.Chains.{task_chains, chain_number, tasks_in}
use Rattle.parts.specs.Tasks.{task_row}
use Rattle.parts.specs.Queues.{queue_row, QueueReadable}
use Rattle.parts.specs.declared.Task.{Task}
use Rattle.parts.specs.declared.Queue.{Queue}
use Rattle.parts.specs.declared.Mailbox.{Mailbox}
use Rattle.record.specs.declared.State.{State}
use Rattle.record.specs.Meaning.{zero_task, zero_queue, task_at, queue_at, cells_of, abs}
use Rattle.record.specs.Sound.{Readable}
use Rattle.record.specs.declared.Step.{Step}
use Rattle.record.specs.Step.{state_engine, Becomes, refusal_of}
use Rattle.record.proofs.Rows.{row_is}
use Rattle.record.proofs.Chains.{chain_range}

-- ── A record with one part changed ──

abbrev pub with_task : ℕ → Task → State → State
with_task t y s = record { counter = s.counter; tasks = set s.tasks t y; waiting = s.waiting; queues = s.queues; mailboxes = s.mailboxes; messages = s.messages }

abbrev pub with_waiting : List ℕ → State → State
with_waiting link s = record { counter = s.counter; tasks = s.tasks; waiting = record { link = link; key = s.waiting.key }; queues = s.queues; mailboxes = s.mailboxes; messages = s.messages }

abbrev pub with_queue : ℕ → Queue → State → State
with_queue q y s = record { counter = s.counter; tasks = s.tasks; waiting = s.waiting; queues = set s.queues q y; mailboxes = s.mailboxes; messages = s.messages }

abbrev pub with_mailbox : ℕ → Mailbox → State → State
with_mailbox b y s = record { counter = s.counter; tasks = s.tasks; waiting = s.waiting; queues = s.queues; mailboxes = set s.mailboxes b y; messages = s.messages }

abbrev pub with_messages : Chains → State → State
with_messages x s = record { counter = s.counter; tasks = s.tasks; waiting = s.waiting; queues = s.queues; mailboxes = s.mailboxes; messages = x }

-- ── Which row ──

-- A row of a number whose cells say the same is the same.
pub same_row : (s r : State) (k : Key) → (T (valid k) → cells_of r k ≡ cells_of s k) → (abs r).rows k ≡ (abs s).rows k
unfolding abs
same_row s r k e = kept (valid k) (nothing k) e
  where
    kept : {X : Type 0} {x y : X} (b : Bool) (d : X) → (T b → x ≡ y) → cond b x d ≡ cond b y d
    kept true d e = e tt
    kept false d e = refl

-- A record whose cells differ from another's at one valid number means the other's rows with that one changed.
pub changed_row : (s r : State) (k : Key) (v : Row k) → T (valid k) → cells_of r k ≡ v → ((j : Key) → j ≢ k → T (valid j) → cells_of r j ≡ cells_of s j)
    → (abs r).rows ≡ update same_key k v (abs s).rows
changed_row s r k v ok new old = fun_ext (λ j. update_cases same_key (λ i x. (abs r).rows i ≡ x) k v (abs s).rows (row_is r k ok ∙ new) j (λ n. same_row s r j (old j n)))

-- The same at two valid numbers.
pub two_rows : (s r : State) (k j : Key) (v : Row k) (w : Row j) → T (valid k) → T (valid j) → cells_of r k ≡ v → cells_of r j ≡ w
    → ((i : Key) → i ≢ k → i ≢ j → T (valid i) → cells_of r i ≡ cells_of s i) → (abs r).rows ≡ update same_key j w (update same_key k v (abs s).rows)
two_rows s r k j v w valid_k valid_j new_k new_j old =
    fun_ext (λ i. update_cases same_key (λ h x. (abs r).rows h ≡ x) j w (update same_key k v (abs s).rows) (row_is r j valid_j ∙ new_j) i
    (λ n. update_cases same_key (λ h x. h ≢ j → (abs r).rows h ≡ x) k v (abs s).rows (λ o. row_is r k valid_k ∙ new_k) i (λ m o. same_row s r i (old i m o)) n))

-- Of what calls only read, the record keeps the counter.
pub same_environment : (s r : State) → r.counter ≡ s.counter → (abs r).environment ≡ (abs s).environment
unfolding abs
same_environment s r e = λ i. record { counter = e i }

pub counter_is : {s r : State} {m : Program.Rows Row} → Becomes s m r → r.counter ≡ s.counter
unfolding abs
counter_is b = ap (λ (e : Environment). e.counter) b.environment_is

-- Two changes in a row.
pub and_then : {s r u : State} {m n : Program.Rows Row} → Becomes s m r → Becomes r n u → Becomes s n u
and_then a b = record { rows_are = b.rows_are; environment_is = b.environment_is ∙ a.environment_is; readable = b.readable }

-- The same rows under another name.
pub meaning : {s r : State} {m n : Program.Rows Row} → m ≡ n → Becomes s m r → Becomes s n r
meaning e a = record { rows_are = a.rows_are ∙ e; environment_is = a.environment_is; readable = a.readable }

-- ── Tasks ──

module _ {s : State} (R : Readable s) (t : ℕ) (ok : T (valid (task t))) (y : Task) where
  task_fits : t < length s.tasks
  task_fits = let r = from_within 1 task_limit t ok in let n = R.sizes.tasks in omega arith

  pub new_task : task_at (with_task t y s) t ≡ y
  new_task = get_or-set_same s.tasks t y zero_task task_fits

  pub other_task : (j : ℕ) → j ≢ t → task_at (with_task t y s) j ≡ task_at s j
  other_task j n = get_or-set_other s.tasks t j y zero_task n

  pub readable_task : Readable (with_task t y s)
  readable_task = record {
    sizes = record { tasks = length-set s.tasks t y ∙ R.sizes.tasks; queues = R.sizes.queues; mailboxes = R.sizes.mailboxes; task_keys = R.sizes.task_keys; message_keys = R.sizes.message_keys };
    waiting = R.waiting;
    messages = R.messages;
    queues = R.queues;
    mailboxes = R.mailboxes;
  }

  -- A task with its suspension as it was.
  pub task_changed : y.suspended ≡ (task_at s t).suspended
      → Becomes s (update same_key (task t) (task_row y (get_or s.waiting.key t 0)) (abs s).rows) (with_task t y s)
  task_changed e = record {
    rows_are = changed_row s (with_task t y s) (task t) _ ok (ap (λ (x : Task). task_row x (get_or s.waiting.key t 0)) new_task) others;
    environment_is = same_environment _ _ refl;
    readable = readable_task;
  }
    where
      others : (j : Key) → j ≢ task t → T (valid j) → cells_of (with_task t y s) j ≡ cells_of s j
      others (task j) n v = ap (λ (x : Task). task_row x (get_or s.waiting.key j 0)) (other_task j (λ i. n (ap task i)))
      others (suspension j) n v = elim (ℕ_discrete j t) [
        | yes i ↦ rw i (ap (λ (x : Task). x.suspended) new_task ∙ e)
        | no i ↦ ap (λ (x : Task). x.suspended) (other_task j i)
      ]
      others (queue q) n v = refl
      others (mailbox b) n v = refl
      others (message g) n v = refl

-- ── Wait queues ──

-- No two wait queues have one chain.
pub chains_apart : (k d : WaitQueue) → T (valid (object_of k)) → T (valid (object_of d)) → chain_number k ≡ chain_number d → k ≡ d
chains_apart (senders_of p) (senders_of q) v w e = ap senders_of e
chains_apart (senders_of p) (receivers_of q) v w e = let a = from_within 1 16 p v in let b = from_within 1 16 q w in absurd (omega arith)
chains_apart (senders_of p) (waiters_of q) v w e = let a = from_within 1 16 p v in let b = from_within 1 16 q w in absurd (omega arith)
chains_apart (receivers_of p) (senders_of q) v w e = let a = from_within 1 16 p v in let b = from_within 1 16 q w in absurd (omega arith)
chains_apart (receivers_of p) (receivers_of q) v w e = ap receivers_of (omega arith)
chains_apart (receivers_of p) (waiters_of q) v w e = let a = from_within 1 16 p v in let b = from_within 1 16 q w in absurd (omega arith)
chains_apart (waiters_of p) (senders_of q) v w e = let a = from_within 1 16 p v in let b = from_within 1 16 q w in absurd (omega arith)
chains_apart (waiters_of p) (receivers_of q) v w e = let a = from_within 1 16 p v in let b = from_within 1 16 q w in absurd (omega arith)
chains_apart (waiters_of p) (waiters_of q) v w e = ap waiters_of (omega arith)

-- A changed chain is one changed wait queue.
module _ {s : State} (R : Readable s) (k : WaitQueue) (ok : T (valid (object_of k))) (link l : List ℕ)
    (d : Changed task_limit task_chains (chain_number k) s.waiting.link link l) where
  has : HasChain task_limit task_chains (chain_number k) s.waiting.link
  has = record { sound = R.waiting; low = (chain_range k ok).0; high = (chain_range k ok).1 }

  own : tasks_in link k ≡ l
  unfolding tasks_in
  own = new_list has d

  other : (j : WaitQueue) → T (valid (object_of j)) → j ≢ k → tasks_in link j ≡ tasks_in s.waiting.link j
  unfolding tasks_in
  other j v n = other_list has d (chain_number j) (λ e. n (chains_apart j k v ok e))

  readable_waiting : Readable (with_waiting link s)
  readable_waiting = record {
    sizes = record { tasks = R.sizes.tasks; queues = R.sizes.queues; mailboxes = R.sizes.mailboxes; task_keys = R.sizes.task_keys; message_keys = R.sizes.message_keys };
    waiting = d.sound;
    messages = R.messages;
    queues = R.queues;
    mailboxes = R.mailboxes;
  }

  -- The rows of all numbers but the one whose wait queue it is.
  other_rows : (j : Key) → j ≢ object_of k → T (valid j) → cells_of (with_waiting link s) j ≡ cells_of s j
  other_rows (task t) n v = refl
  other_rows (suspension t) n v = refl
  other_rows (queue p) n v = rw (other (senders_of p) v (λ e. n (ap object_of e)), other (receivers_of p) v (λ e. n (ap object_of e))) refl
  other_rows (mailbox b) n v = rw (other (waiters_of b) v (λ e. n (ap object_of e))) refl
  other_rows (message g) n v = refl

pub waiting_changed : {s : State} → Readable s → (k : WaitQueue) → T (valid (object_of k)) → (link l : List ℕ)
    → Changed task_limit task_chains (chain_number k) s.waiting.link link l → Becomes s (set_standing k l (abs s).rows) (with_waiting link s)
unfolding set_standing
waiting_changed {s} R k ok link l d = record { rows_are = rows k ok d; environment_is = same_environment _ _ refl; readable = readable_waiting R k ok link l d }
  where
    rows : (k : WaitQueue) → T (valid (object_of k)) → Changed task_limit task_chains (chain_number k) s.waiting.link link l → (abs (with_waiting link s)).rows ≡ set_standing k l (abs s).rows
    rows (senders_of q) ok d = changed_row s (with_waiting link s) (queue q) _ ok
        (rw (row_is s (queue q) ok, own R (senders_of q) ok link l d, other R (senders_of q) ok link l d (receivers_of q) ok (λ e. let z : ◌≡◌ {A = ℕ} 0 1 = cc in omega arith)) refl)
        (other_rows R (senders_of q) ok link l d)
    rows (receivers_of q) ok d = changed_row s (with_waiting link s) (queue q) _ ok
        (rw (row_is s (queue q) ok, own R (receivers_of q) ok link l d, other R (receivers_of q) ok link l d (senders_of q) ok (λ e. let z : ◌≡◌ {A = ℕ} 0 1 = cc in omega arith)) refl)
        (other_rows R (receivers_of q) ok link l d)
    rows (waiters_of b) ok d = changed_row s (with_waiting link s) (mailbox b) _ ok
        (rw (row_is s (mailbox b) ok, own R (waiters_of b) ok link l d) refl)
        (other_rows R (waiters_of b) ok link l d)

-- ── Data queues ──

module _ {s : State} (R : Readable s) (q : ℕ) (ok : T (valid (queue q))) (y : Queue) where
  queue_fits : q < length s.queues
  queue_fits = let r = from_within 1 queue_limit q ok in let n = R.sizes.queues in omega arith

  new_queue : queue_at (with_queue q y s) q ≡ y
  new_queue = get_or-set_same s.queues q y zero_queue queue_fits

  other_queue : (j : ℕ) → j ≢ q → queue_at (with_queue q y s) j ≡ queue_at s j
  other_queue j n = get_or-set_other s.queues q j y zero_queue n

  readable_queue : QueueReadable y → Readable (with_queue q y s)
  readable_queue new = record {
    sizes = record { tasks = R.sizes.tasks; queues = length-set s.queues q y ∙ R.sizes.queues; mailboxes = R.sizes.mailboxes; task_keys = R.sizes.task_keys; message_keys = R.sizes.message_keys };
    waiting = R.waiting;
    messages = R.messages;
    queues = λ j v. elim (ℕ_discrete j q) [
      | yes e ↦ rw (e, new_queue) new
      | no n ↦ rw (other_queue j n) (R.queues j v)
    ];
    mailboxes = R.mailboxes;
  }

  -- A data queue with its wait queues as they were.
  pub queue_changed : QueueReadable y
      → Becomes s (update same_key (queue q) (queue_row y ((abs s).rows (queue q)).senders ((abs s).rows (queue q)).receivers) (abs s).rows) (with_queue q y s)
  queue_changed new = record {
    rows_are = changed_row s (with_queue q y s) (queue q) _ ok (rw (row_is s (queue q) ok, new_queue) refl) others;
    environment_is = same_environment _ _ refl;
    readable = readable_queue new;
  }
    where
      others : (j : Key) → j ≢ queue q → T (valid j) → cells_of (with_queue q y s) j ≡ cells_of s j
      others (task t) n v = refl
      others (suspension t) n v = refl
      others (queue j) n v = rw (other_queue j (λ e. n (ap queue e))) refl
      others (mailbox b) n v = refl
      others (message g) n v = refl

-- ── What a step does ──

-- A step does what a program leaves and returns.
pub does : {p : Effect} {s after : State} {answer : Answer} → After (λ n a. Becomes s n after × (answer ≡ a)) p (abs s).rows → engine.Does state_engine p s after answer
does h = record { becomes = h.holds.0; answer_is = h.holds.1 }

-- A step that does what is left of a program on the record so far does the program.
pub does_rest : {p q : Effect} {s u after : State} {answer : Answer} → run same_key p (abs s).rows ≡ run same_key q (abs u).rows → u.counter ≡ s.counter
    → engine.Does state_engine q u after answer → engine.Does state_engine p s after answer
does_rest e f d = record {
  becomes = rw e (record { rows_are = d.becomes.rows_are; environment_is = d.becomes.environment_is ∙ same_environment _ _ f; readable = d.becomes.readable });
  answer_is = rw e d.answer_is;
}

-- A program that only answers leaves the record as it is.
pub stays : {s : State} {x y : Answer} → Readable s → y ≡ x → engine.Does state_engine (return x) s s y
stays R e = does (after_return (record { rows_are = refl; environment_is = refl; readable = R }, e))

-- A refusal as a whole, and its parts.
module _ {code : Code} {s : State} {r : Step} where
  pub refused_with : r ≡ refusal_of code s → RefusedWith code s r.state r.answer
  refused_with e = let answer = ap (λ (x : Step). x.answer) e in record { state_is = ap (λ (x : Step). x.state) e; finished_with = record { answer_is = answer; values_are = ap values answer } }

  pub refusal_is : RefusedWith code s r.state r.answer → r ≡ refusal_of code s
  refusal_is h = λ i. record { state = h.state_is i; answer = h.finished_with.answer_is i }
