-- Which rows of tasks a decision leaves alone: by rules that follow its program line by line.
use Rattle.std.proofs.Common.{◌≡◌, ℕ, Bool, true, ◌≢◌, List, sym, refl, ap, ◌∙◌}
use mathlib.Core.Option.{Option, none, some}
use Rattle.rows.specs.Program as Program
use Rattle.rows.specs.Program.{return, get, put, get_each, update, run, Result}
use Rattle.rows.proofs.Run.{run_get_each}
use Rattle.rows.proofs.Update.{update_other}
use Rattle.model.specs.Rows.{Key, task, suspension, queue, mailbox, message, same_key, Row, Model, Effect}
use Rattle.model.specs.Waits.{WaitQueue, object_of, senders_of, receivers_of, waiters_of, wait_queue}
use Rattle.model.specs.WaitQueues.{release, leave_queue, end_wait}
use Rattle.model.specs.DataQueues.{deliver, store, replace_oldest, wait_to_send, take_oldest, take_oldest_and_refill, take_from_sender, wait_to_receive}
use Rattle.model.specs.Mailboxes.{deliver_message, queue_message, take_message, wait_for_message}
use Rattle.model.specs.declared.Answer.{Answer}
use Rattle.model.specs.declared.Code.{Code}
use Rattle.model.specs.declared.Wait.{Wait}
use Rattle.model.specs.declared.Wait.TheVariants.{NoWait, Sending, Receiving, AtMailbox}
use Rattle.decide.specs.Decisions.{ran}
use Rattle.decide.specs.Touches.{SameTask, Touches, changed_by, LeavesAlone}
use Rattle.decide.specs.declared.Decision.{Decision}
use Rattle.decide.specs.declared.Touched.TheVariants.{NoTask, OneTask}
use Rattle.decide.specs.declared.Decision.TheVariants.{Refuse, Say, Tick, DefineTask, EndWait, Suspend, CreateQueue, DeleteQueue, Deliver, Store, Replace}
use Rattle.decide.specs.declared.Decision.TheVariants.{TakeOldest, TakeAndRefill, TakeFromSender, CreateMailbox, DeleteMailbox, DeliverMessage, QueueMessage}
use Rattle.decide.specs.declared.Decision.TheVariants.{TakeMessage, Join}

-- ── The forms of a program ──

-- What the program leaves of task t's row and suspension is what it found.
record Keeps (t : ℕ) (p : Effect) : Type 0 where
  row : (m : Program.Rows Row) → (run same_key p m).state (task t) ≡ m (task t)
  suspended : (m : Program.Rows Row) → (run same_key p m).state (suspension t) ≡ m (suspension t)

-- The row is none of task t's.
abbrev Apart : ℕ → Key → Type 0
Apart t (task n) = t ≢ n
Apart t (suspension n) = t ≢ n
Apart t (queue n) = Unit
Apart t (mailbox n) = Unit
Apart t (message n) = Unit

abbrev number : Key → ℕ
number (task n) = n
number (suspension n) = n
number (queue n) = n
number (mailbox n) = n
number (message n) = n

row_apart : (t : ℕ) (k : Key) (v : Row k) (m : Program.Rows Row) → Apart t k → update same_key k v m (task t) ≡ m (task t)
unfolding same_key update
row_apart t (task n) v m a = update_other same_key (task n) v m (task t) (λ e. a (ap number e))
row_apart t (suspension n) v m a = refl
row_apart t (queue n) v m a = refl
row_apart t (mailbox n) v m a = refl
row_apart t (message n) v m a = refl

suspension_apart : (t : ℕ) (k : Key) (v : Row k) (m : Program.Rows Row) → Apart t k → update same_key k v m (suspension t) ≡ m (suspension t)
unfolding same_key update
suspension_apart t (task n) v m a = refl
suspension_apart t (suspension n) v m a = update_other same_key (suspension n) v m (suspension t) (λ e. a (ap number e))
suspension_apart t (queue n) v m a = refl
suspension_apart t (mailbox n) v m a = refl
suspension_apart t (message n) v m a = refl

keeps_return : {t : ℕ} {a : Answer} → Keeps t (return a)
unfolding run
keeps_return = record { row = λ m. refl; suspended = λ m. refl }

keeps_get : {t : ℕ} {k : Key} {f : Row k → Effect} → ((x : Row k) → Keeps t (f x)) → Keeps t (get k f)
unfolding run
keeps_get {k = k} h = record { row = λ m. (h (m k)).row m; suspended = λ m. (h (m k)).suspended m }

keeps_put : {t : ℕ} (k : Key) {v : Row k} {p : Effect} → Apart t k → Keeps t p → Keeps t (put k v p)
unfolding run
keeps_put {t} k {v} a h = record {
  row = λ m. h.row (update same_key k v m) ∙ row_apart t k v m a;
  suspended = λ m. h.suspended (update same_key k v m) ∙ suspension_apart t k v m a;
}

keeps_get_each : {t : ℕ} {X : Type 0} (key : ℕ → Key) (read : (n : ℕ) → Row (key n) → X) (l : List ℕ) {f : List X → Effect}
    → ((xs : List X) → Keeps t (f xs)) → Keeps t (get_each key read l f)
keeps_get_each {t} key read l {f} h = record {
  row = λ m. ap (λ (o : Result (Program.Rows Row) Answer). o.state (task t)) (run_get_each same_key key read l f m) ∙ (h _).row m;
  suspended = λ m. ap (λ (o : Result (Program.Rows Row) Answer). o.state (suspension t)) (run_get_each same_key key read l f m) ∙ (h _).suspended m;
}

-- ── What several decisions share ──

keeps_release : {t : ℕ} {p : Effect} (u : ℕ) (code : Code) (word : ℕ) → t ≢ u → Keeps t p → Keeps t (release u code word p)
unfolding release
keeps_release u code word n h = keeps_get (λ x. keeps_put (task u) n h)

object_apart : (t : ℕ) (k : WaitQueue) → Apart t (object_of k)
object_apart t (senders_of q) = tt
object_apart t (receivers_of q) = tt
object_apart t (waiters_of b) = tt

keeps_leave : {t : ℕ} {p : Effect} (u : ℕ) (x : Option WaitQueue) → Keeps t p → Keeps t (leave_queue u x p)
unfolding leave_queue
keeps_leave u none h = h
keeps_leave {t} u (some k) h = keeps_get (λ x. keeps_put (object_of k) (object_apart t k) h)

keeps_end_wait : {t : ℕ} {p : Effect} (u : ℕ) (code : Code) → t ≢ u → Keeps t p → Keeps t (end_wait u code p)
unfolding end_wait
keeps_end_wait u code n h = keeps_get (λ x. keeps_leave u (wait_queue x.wait) (keeps_put (task u) n h))

same : {m : Model} {t : ℕ} {p : Effect} → Keeps t p → SameTask m (ran m p).state t
unfolding ran
same {m} h = record { row = h.row m.rows; suspended = h.suspended m.rows }

-- ── The decisions ──

pub by_define : (t priority : ℕ) → Touches (DefineTask t priority) (OneTask t)
by_define t priority m r j n = same (keeps_put (task t) n (keeps_put (suspension t) n keeps_return))

pub by_end_wait : (t : ℕ) → Touches (EndWait t) (OneTask t)
by_end_wait t m r j n = same (keeps_end_wait t _ n keeps_return)

pub by_suspend : (t : ℕ) (suspended : Bool) → Touches (Suspend t suspended) (OneTask t)
by_suspend t suspended m r j n = same (keeps_put (suspension t) n keeps_return)

pub by_deliver : (q t word : ℕ) → Touches (Deliver q t word) (OneTask t)
unfolding deliver
by_deliver q t word m r j n = same (keeps_put (queue q) tt (keeps_release _ _ _ (λ e. n (e ∙ sym r.2)) keeps_return))

pub by_refill : (q t : ℕ) → Touches (TakeAndRefill q t) (OneTask t)
unfolding take_oldest_and_refill
by_refill q t m r j n = same (keeps_get (λ x. keeps_put (queue q) tt (keeps_put (task _) (λ e. n (e ∙ sym r.3)) keeps_return)))

pub by_take : (q t : ℕ) → Touches (TakeFromSender q t) (OneTask t)
unfolding take_from_sender
by_take q t m r j n = same (keeps_get (λ x. keeps_put (queue q) tt (keeps_put (task _) (λ e. n (e ∙ sym r.2)) keeps_return)))

pub by_deliver_message : (b t g : ℕ) → Touches (DeliverMessage b t g) (OneTask t)
unfolding deliver_message
by_deliver_message b t g m r j n = same (keeps_put (mailbox b) tt (keeps_release _ _ _ (λ e. n (e ∙ sym r.2)) keeps_return))

pub by_join : (me : ℕ) (ranked : Bool) (wait : Wait) → Touches (Join me ranked wait) (OneTask me)
unfolding wait_to_send wait_to_receive wait_for_message
by_join me ranked NoWait m r j n = absurd r.1
by_join me ranked (Sending q end word) m r j n = same (keeps_get_each task _ _ (λ keys. keeps_put (queue q) tt (keeps_put (task me) n keeps_return)))
by_join me ranked (Receiving q end) m r j n = same (keeps_put (queue q) tt (keeps_put (task me) n keeps_return))
by_join me ranked (AtMailbox b end) m r j n = same (keeps_get_each task _ _ (λ keys. keeps_put (mailbox b) tt (keeps_put (task me) n keeps_return)))

-- ── The arms that the code doesn't name ──

-- A decision that is none of those with an arm of their own in `touches`.
pub record Unnamed (d : Decision) : Type 0 where
  pub not_define : (t priority : ℕ) → d ≡ DefineTask t priority → ⊥
  pub not_end_wait : (t : ℕ) → d ≡ EndWait t → ⊥
  pub not_suspend : (t : ℕ) (suspended : Bool) → d ≡ Suspend t suspended → ⊥
  pub not_deliver : (q t word : ℕ) → d ≡ Deliver q t word → ⊥
  pub not_refill : (q t : ℕ) → d ≡ TakeAndRefill q t → ⊥
  pub not_take : (q t : ℕ) → d ≡ TakeFromSender q t → ⊥
  pub not_deliver_message : (b t g : ℕ) → d ≡ DeliverMessage b t g → ⊥
  pub not_join : (me : ℕ) (ranked : Bool) (wait : Wait) → d ≡ Join me ranked wait → ⊥
  pub not_tick : d ≡ Tick → ⊥
  pub not_delete_queue : (q : ℕ) → d ≡ DeleteQueue q → ⊥
  pub not_delete_mailbox : (b : ℕ) → d ≡ DeleteMailbox b → ⊥

pub no_task : (d : Decision) → Unnamed d → Touches d NoTask
unfolding store replace_oldest take_oldest queue_message take_message
no_task (Refuse code) h m r j n = same keeps_return
no_task (Say code a b c) h m r j n = same keeps_return
no_task Tick h m r j n = absurd (h.not_tick refl)
no_task (DefineTask t priority) h m r j n = absurd (h.not_define t priority refl)
no_task (EndWait t) h m r j n = absurd (h.not_end_wait t refl)
no_task (Suspend t suspended) h m r j n = absurd (h.not_suspend t suspended refl)
no_task (CreateQueue q attribute capacity) h m r j n = same (keeps_put (queue q) tt keeps_return)
no_task (DeleteQueue q) h m r j n = absurd (h.not_delete_queue q refl)
no_task (Deliver q t word) h m r j n = absurd (h.not_deliver q t word refl)
no_task (Store q word) h m r j n = same (keeps_put (queue q) tt keeps_return)
no_task (Replace q word) h m r j n = same (keeps_put (queue q) tt keeps_return)
no_task (TakeOldest q) h m r j n = same (keeps_put (queue q) tt keeps_return)
no_task (TakeAndRefill q t) h m r j n = absurd (h.not_refill q t refl)
no_task (TakeFromSender q t) h m r j n = absurd (h.not_take q t refl)
no_task (CreateMailbox b attribute highest) h m r j n = same (keeps_put (mailbox b) tt keeps_return)
no_task (DeleteMailbox b) h m r j n = absurd (h.not_delete_mailbox b refl)
no_task (DeliverMessage b t g) h m r j n = absurd (h.not_deliver_message b t g refl)
no_task (QueueMessage b g priority) h m r j n = same (keeps_get_each message _ _ (λ keys. keeps_put (mailbox b) tt (keeps_put (message g) tt keeps_return)))
no_task (TakeMessage b) h m r j n = same (keeps_put (mailbox b) tt (keeps_put (message _) tt keeps_return))
no_task (Join me ranked wait) h m r j n = absurd (h.not_join me ranked wait refl)

-- What is no refusal and says nothing may change the state.
pub rest_changes : (d : Decision) → ((code : Code) → d ≡ Refuse code → ⊥) → ((code : Code) (a b c : ℕ) → d ≡ Say code a b c → ⊥)
    → true ≡ changed_by d
rest_changes (Refuse code) h k = absurd (h code refl)
rest_changes (Say code a b c) h k = absurd (k code a b c refl)
rest_changes Tick h k = refl
rest_changes (DefineTask t priority) h k = refl
rest_changes (EndWait t) h k = refl
rest_changes (Suspend t suspended) h k = refl
rest_changes (CreateQueue q attribute capacity) h k = refl
rest_changes (DeleteQueue q) h k = refl
rest_changes (Deliver q t word) h k = refl
rest_changes (Store q word) h k = refl
rest_changes (Replace q word) h k = refl
rest_changes (TakeOldest q) h k = refl
rest_changes (TakeAndRefill q t) h k = refl
rest_changes (TakeFromSender q t) h k = refl
rest_changes (CreateMailbox b attribute highest) h k = refl
rest_changes (DeleteMailbox b) h k = refl
rest_changes (DeliverMessage b t g) h k = refl
rest_changes (QueueMessage b g priority) h k = refl
rest_changes (TakeMessage b) h k = refl
rest_changes (Join me ranked wait) h k = refl

-- ── The others leave the state alone ──

pub leaves_alone : LeavesAlone
unfolding ran run
leaves_alone (Refuse code) t m = refl
leaves_alone (Say code a b c) t m = refl
leaves_alone Tick t m = absurd t
leaves_alone (DefineTask u priority) t m = absurd t
leaves_alone (EndWait u) t m = absurd t
leaves_alone (Suspend u suspended) t m = absurd t
leaves_alone (CreateQueue q attribute capacity) t m = absurd t
leaves_alone (DeleteQueue q) t m = absurd t
leaves_alone (Deliver q u word) t m = absurd t
leaves_alone (Store q word) t m = absurd t
leaves_alone (Replace q word) t m = absurd t
leaves_alone (TakeOldest q) t m = absurd t
leaves_alone (TakeAndRefill q u) t m = absurd t
leaves_alone (TakeFromSender q u) t m = absurd t
leaves_alone (CreateMailbox b attribute highest) t m = absurd t
leaves_alone (DeleteMailbox b) t m = absurd t
leaves_alone (DeliverMessage b u g) t m = absurd t
leaves_alone (QueueMessage b g priority) t m = absurd t
leaves_alone (TakeMessage b) t m = absurd t
leaves_alone (Join me ranked wait) t m = absurd t
