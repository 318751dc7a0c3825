-- What holds after a program: rules by which a proof follows the program line by line. By running it.
use mathlib.Core.Path.{◌≡◌, refl, sym, subst, fun_ext}
use mathlib.Core.Bool.{Bool, true, false, not, cond, ◌||◌}
use mathlib.Core.List.{List, [], ◌∷◌, map}
use mathlib.Core.Option.{Option, some}
use Prim.Native.Nat.{ℕ}
use lib.Dec.{T, eqb}
use borrow.Author.Tests.{eq-eqb, ne_eqb}
use Rattle.lists.specs.Lists.{without, one_of}
use Rattle.rows.specs.Program as Program
use Rattle.rows.specs.Program.{return, get, put, provided◌then◌else◌, get_each, update, run, Result}
use Rattle.rows.proofs.Run.{run_get_each}
use Rattle.model.specs.Rows.{Key, task, suspension, queue, mailbox, message, same_key, Row, Effect, free}
use Rattle.model.specs.Codes.{Code}
use Rattle.model.specs.Waits.{ended, WaitQueue, wait_queue}
use Rattle.model.specs.WaitQueues.{leave_queue, end_wait, standing_in, set_standing}
use Rattle.model.specs.Mailboxes.{free_messages}
use Rattle.model.specs.WellFormed.{WellFormedRows}
use Rattle.model.specs.declared.Answer.{Answer}
use Rattle.model.proofs.Choices.{cond_both}
use Rattle.model.proofs.Standing.{message_cases}
use Rattle.model.proofs.RowMoves.{with_message_rows, freed, own_messages}

-- Q holds of the rows and the answer that the program leaves.
pub record After (Q : Program.Rows Row → Answer → Type 0) (p : Effect) (m : Program.Rows Row) : Type 0 where
  pub holds : Q (run same_key p m).state (run same_key p m).answer

-- The rows that are left are well-formed, whatever the answer.
abbrev pub Kept : Program.Rows Row → Answer → Type 0
Kept n a = WellFormedRows n

module _ {Q : Program.Rows Row → Answer → Type 0} where
  -- ── The forms of a program ──

  pub after_return : {a : Answer} {m : Program.Rows Row} → Q m a → After Q (return a) m
  unfolding run
  after_return h = record { holds = h }

  pub after_get : {k : Key} {f : Row k → Effect} {m : Program.Rows Row} → After Q (f (m k)) m → After Q (get k f) m
  unfolding run
  after_get h = record { holds = h.holds }

  pub after_put : {k : Key} {v : Row k} {p : Effect} {m : Program.Rows Row} → After Q p (update same_key k v m) → After Q (put k v p) m
  unfolding run
  after_put h = record { holds = h.holds }

  pub after_if : {b : Bool} {p q : Effect} {m : Program.Rows Row} → (T b → After Q p m) → (T (not b) → After Q q m) → After Q (provided b then p else q) m
  unfolding run
  after_if {b = true} yes_case no_case = record { holds = (yes_case tt).holds }
  after_if {b = false} yes_case no_case = record { holds = (no_case tt).holds }

  pub after_get_each : {X : Type 0} (key : ℕ → Key) (read : (n : ℕ) → Row (key n) → X) (l : List ℕ) (f : List X → Effect) {m : Program.Rows Row}
      → After Q (f (map (λ n. read n (m (key n))) l)) m → After Q (get_each key read l f) m
  after_get_each key read l f {m} h = record { holds = subst (λ (r : Result (Program.Rows Row) Answer). Q r.state r.answer) (sym (run_get_each same_key key read l f m)) h.holds }

  -- ── What several calls share ──

  after_leave_queue : (t : ℕ) (x : Option WaitQueue) (c : WaitQueue) (p : Effect) (m : Program.Rows Row) → x ≡ some c
      → After Q p (set_standing c (without t (standing_in m c)) m) → After Q (leave_queue t x p) m
  unfolding leave_queue set_standing
  after_leave_queue t x c p m e h = subst (λ y. After Q (leave_queue t y p) m) (sym e) (after_get (after_put h))

  -- The task of the wait queue that its wait names.
  pub after_end_wait : (t : ℕ) (code : Code) (c : WaitQueue) (p : Effect) (m : Program.Rows Row) → wait_queue (m (task t)).wait ≡ some c
      → After Q p (update same_key (task t) (ended code 0 (m (task t))) (set_standing c (without t (standing_in m c)) m)) → After Q (end_wait t code p) m
  unfolding end_wait
  after_end_wait t code c p m e h = after_get (after_leave_queue t (wait_queue (m (task t)).wait) c _ m e (after_put h))

  pub after_free_messages : (l : List ℕ) (p : Effect) (m : Program.Rows Row) → After Q p (with_message_rows (freed l m) m) → After Q (free_messages l p) m
  unfolding free_messages one_of same_key update
  after_free_messages [] p m h = subst (After Q p) (own_messages m) h
  after_free_messages (g ∷ gs) p m h = after_put (after_free_messages gs p (update same_key (message g) free m) (subst (After Q p) (fun_ext same) h))
    where
      same : (k : Key) → with_message_rows (freed (g ∷ gs) m) m k
          ≡ with_message_rows (freed gs (update same_key (message g) free m)) (update same_key (message g) free m) k
      same (task t) = refl
      same (suspension t) = refl
      same (queue q) = refl
      same (mailbox b) = refl
      same (message j) = message_cases g m (λ i y. cond (eqb i g || one_of i gs) free (m (message i)) ≡ cond (one_of i gs) free y)
          free (rw (eq-eqb g g refl) (sym (cond_both (one_of g gs) free free refl (λ n. refl)))) j (λ n. rw (ne_eqb j g n))

-- What a program leaves, read off such a proof.
pub leads : (p q : Effect) (m n : Program.Rows Row) → After (λ o a. record { state = o; answer = a } ≡ run same_key q n) p m → run same_key p m ≡ run same_key q n
leads p q m n h = h.holds

pub leads_here : (q : Effect) (n : Program.Rows Row) → After (λ o a. record { state = o; answer = a } ≡ run same_key q n) q n
leads_here q n = record { holds = refl }
