-- What the effects on a task do to the record's meaning: by the laws of the record, and of a wait that ends.
use Rattle.std.proofs.Common.{◌≡◌, ℕ, Bool, true, false, not, T, ◌≢◌, List, get_or, set, refl, ap, ◌∙◌, arith, length-set, get_or-set_other, get_or-set_same}
use native.Mathlib.Decide.{ℕ_discrete}
use Rattle.rows.specs.Program.{update}
use Rattle.model.specs.Sizes.{task_limit}
use Rattle.model.specs.Rows.{Key, task, suspension, queue, mailbox, message, same_key, valid}
use Rattle.model.specs.Codes.{finished, done}
use Rattle.model.specs.Waits.{able}
use Rattle.model.specs.WaitQueues.{end_wait}
use Rattle.model.specs.Tasks.{define, set_suspension}
use Rattle.model.specs.declared.Answer.{Answer}
use Rattle.model.specs.declared.Code.TheVariants.{Ok as E_OK, Rlwai as E_RLWAI}
use Rattle.model.specs.declared.Wait.TheVariants.{NoWait}
use Rattle.model.proofs.Tests.{from_within}
use Rattle.model.proofs.After.{after_return, after_put}
use Rattle.parts.specs.Tasks.{task_row, read_code}
use Rattle.parts.specs.declared.Task.{Task}
use Rattle.record.specs.declared.State.{State}
use Rattle.record.specs.Meaning.{task_at, cells_of, abs}
use Rattle.record.specs.Sound.{Readable, Sound}
use Rattle.record.specs.Step.{Becomes, Does}
use Rattle.record.proofs.Laws.{with_task, changed_row, two_rows, same_environment, counter_is, new_task, other_task, readable_task, does, does_rest, stays}
use Rattle.waits.specs.Waiting.{Endable, Ended}
use Rattle.waits.proofs.Laws.{rows_of}
use Rattle.waits.proofs.Ends.{endable, end_becomes, end_runs}

-- ── 20, 21 ──

-- A task with another suspension.
abbrev with_suspension : Bool → Task → Task
with_suspension b x = record { wait = x.wait; word = x.word; code = x.code; defined = x.defined; suspended = b }

module _ {s : State} (R : Readable s) (t : ℕ) (ok : T (valid (task t))) (b : Bool) where
  abbrev changed : State
  changed = with_task t (with_suspension b (task_at s t)) s

  new : task_at changed t ≡ with_suspension b (task_at s t)
  new = new_task R t ok _

  suspension_changed : Becomes s (update same_key (suspension t) b (abs s).rows) changed
  suspension_changed = record {
    rows_are = changed_row s changed (suspension t) b ok (ap (λ (x : Task). x.suspended) new) others;
    environment_is = same_environment _ _ refl;
    readable = readable_task R t ok _;
  }
    where
      others : (j : Key) → j ≢ suspension t → T (valid j) → cells_of changed j ≡ cells_of s j
      others (task j) n v = elim (ℕ_discrete j t) [
        | yes i ↦ rw i (ap (λ (x : Task). task_row x (get_or s.waiting.key t 0)) new)
        | no i ↦ ap (λ (x : Task). task_row x (get_or s.waiting.key j 0)) (other_task R t ok _ j i)
      ]
      others (suspension j) n v = ap (λ (x : Task). x.suspended) (other_task R t ok _ j (λ i. n (ap suspension i)))
      others (queue q) n v = refl
      others (mailbox m) n v = refl
      others (message g) n v = refl

  pub suspension_set : {x : Answer} → x ≡ finished E_OK 0 0 0 → Does (set_suspension t b) s (record { state = changed; answer = x })
  suspension_set e = does (after_put (after_return (suspension_changed, e)))

-- ── 1 ──

-- The keys of the table of waiting tasks are the priorities.
abbrev with_keys : List ℕ → State → State
with_keys keys s = record {
  counter = s.counter;
  tasks = s.tasks;
  waiting = record { link = s.waiting.link; key = keys };
  queues = s.queues;
  mailboxes = s.mailboxes;
  messages = s.messages;
}

abbrev new_record : Task
new_record = record { wait = NoWait; word = 0; code = 0; defined = true; suspended = false }

-- A task's record and priority written anew are its row and its suspension. No row but a task's own has to do with its priority.
module _ {s : State} (R : Readable s) (t : ℕ) (ok : T (valid (task t))) (priority : ℕ) {keys : List ℕ} (keys_are : keys ≡ set s.waiting.key t priority) where
  with_keys_readable : Readable (with_keys keys s)
  with_keys_readable = record {
    sizes = record {
      tasks = R.sizes.tasks;
      queues = R.sizes.queues;
      mailboxes = R.sizes.mailboxes;
      task_keys = rw keys_are (length-set s.waiting.key t priority ∙ R.sizes.task_keys);
      message_keys = R.sizes.message_keys;
    };
    waiting = R.waiting;
    messages = R.messages;
    queues = R.queues;
    mailboxes = R.mailboxes;
  }

  abbrev written : State
  written = with_task t new_record (with_keys keys s)

  new_is : task_at written t ≡ new_record
  new_is = new_task with_keys_readable t ok new_record

  new_key : get_or keys t 0 ≡ priority
  new_key = rw keys_are (get_or-set_same s.waiting.key t priority 0 (let r = from_within 1 task_limit t ok in let n = R.sizes.task_keys in omega arith))

  task_anew : Becomes s (update same_key (suspension t) false (update same_key (task t) (task_row new_record priority) (abs s).rows)) written
  task_anew = record {
    rows_are = two_rows s written (task t) (suspension t) (task_row new_record priority) false ok ok (rw (new_is, new_key) refl) (ap (λ (z : Task). z.suspended) new_is) others;
    environment_is = same_environment _ _ refl;
    readable = readable_task with_keys_readable t ok new_record;
  }
    where
      others : (j : Key) → j ≢ task t → j ≢ suspension t → T (valid j) → cells_of written j ≡ cells_of s j
      others (task j) n m v =
          let i : j ≢ t = λ h. n (ap task h) in
          rw (other_task with_keys_readable t ok new_record j i, keys_are, get_or-set_other s.waiting.key t j priority 0 i) refl
      others (suspension j) n m v = ap (λ (z : Task). z.suspended) (other_task with_keys_readable t ok new_record j (λ h. m (ap suspension h)))
      others (queue q) n m v = refl
      others (mailbox b) n m v = refl
      others (message g) n m v = refl

  pub task_defined : {x : Answer} → x ≡ finished E_OK 0 0 0 → Does (define t priority) s (record { state = written; answer = x })
  unfolding read_code
  task_defined e = does (after_put (after_put (after_return (task_anew, e))))

-- ── 19 ──

module _ {s : State} (S : Sound s) (t : ℕ) (ok : T (valid (task t))) (waits : T (not (able ((abs s).rows (task t)).wait))) where
  pub can_end : Endable s t
  can_end = endable S.readable (rows_of S) t ok waits

  -- The number 49 that is stored is read as E_RLWAI.
  pub wait_ended : {r : State} {x : Answer} → Ended s t (read_code 49) r → x ≡ finished E_OK 0 0 0 → Does (end_wait t E_RLWAI done) s (record { state = r; answer = x })
  unfolding read_code
  wait_ended h e = let b = end_becomes waits h in does_rest (end_runs waits h done) (counter_is b) (stays b.readable e)
