-- A call's step by cases, refused or not, in terms of what it has in view: by running its two stages.
use mathlib.Core.Path.{◌≡◌, refl, sym, ◌∙◌, ap}
use mathlib.Core.Bool.{Bool, true, false, not, cond, ◌||◌}
use mathlib.Core.List.{List, [], ◌∷◌, ◌++◌}
use Prim.Native.Nat.{ℕ}
use lib.Dec.{T, eqb}
use Rattle.rows.specs.Program as Program
use Rattle.rows.specs.Program.{Program, get, provided◌then◌else◌, run_first, run, Result, step_of}
use Rattle.rows.proofs.Run.{run_return, run_yes, run_no, run_run_first}
use Rattle.model.specs.Rows.{Key, task, suspension, queue, mailbox, message, same_key, valid, Row, Environment, Effect, Model, nothing}
use Rattle.model.specs.Codes.{finished, refuse}
use Rattle.model.specs.Calls.{Call, CallerView, View, row_if_valid, read_if_valid, see_caller, see_named, view_of, task_named, suspension_named, queue_named, mailbox_named, message_named}
use Rattle.model.specs.Errors.{ErrorRow, rows_to_step_4, rows_from_step_5, error_table, some_applies, first_that_applies, refused, refusal, unless_refused}
use Rattle.model.specs.Tasks.{tick}
use Rattle.model.specs.Step.{program, effect, call, step}
use Rattle.model.specs.declared.Answer.{Answer}
use Rattle.model.proofs.Choices.{cond_yes, cond_no}

-- ── What is in view ──

run_read_if_valid : {X : Type 0} (k : Key) (f : Row k → Program Key Row X) (m : Program.Rows Row) → run same_key (read_if_valid k f) m ≡ run same_key (f (row_if_valid m k)) m
unfolding read_if_valid run
run_read_if_valid {X} k f m = go (valid k)
  where
    go : (b : Bool) → run same_key (provided b then get k f else f (nothing k)) m ≡ run same_key (f (cond b (m k) (nothing k))) m
    go true = refl
    go false = refl

-- The rows named are read where their numbers are valid; nothing is changed.
abbrev caller_seen : Program.Rows Row → Call → CallerView
caller_seen m c = record { row = row_if_valid m (task c.caller); suspended = row_if_valid m (suspension c.caller) }

abbrev named_seen : Program.Rows Row → Call → CallerView → View
named_seen m c caller = record {
  caller = caller;
  the_task = row_if_valid m (task (task_named c));
  suspended = row_if_valid m (suspension (suspension_named c));
  the_queue = row_if_valid m (queue (queue_named c));
  the_mailbox = row_if_valid m (mailbox (mailbox_named c));
  the_message = row_if_valid m (message (message_named c));
}

abbrev pub rows_seen : Program.Rows Row → Call → View
rows_seen m c = named_seen m c (caller_seen m c)

module _ (e : Environment) (c : Call) (m : Program.Rows Row) where
  run_see_caller : run same_key (see_caller e c) m ≡ record { state = m; answer = caller_seen m c }
  unfolding see_caller
  run_see_caller = run_read_if_valid (task _) _ m ∙ (run_read_if_valid (suspension _) _ m ∙ run_return same_key _ m)

  run_see_named : (caller : CallerView) → run same_key (see_named e c caller) m ≡ record { state = m; answer = named_seen m c caller }
  unfolding see_named
  run_see_named caller =
      run_read_if_valid (task _) _ m ∙ (run_read_if_valid (suspension _) _ m ∙ (run_read_if_valid (queue _) _ m
      ∙ (run_read_if_valid (mailbox _) _ m ∙ (run_read_if_valid (message _) _ m ∙ run_return same_key _ m))))

-- What a call has in view, row by row.
pub view_is : (m : Model) (c : Call) → view_of m c ≡ rows_seen m.rows c
unfolding view_of
view_is m c =
    ap (λ (o : Result (Program.Rows Row) CallerView). (run same_key (see_named m.environment c o.answer) m.rows).answer) (run_see_caller m.environment c m.rows)
    ∙ ap (λ (o : Result (Program.Rows Row) View). o.answer) (run_see_named m.environment c m.rows _)

-- ── Rows of the error table in two lists ──

pub applies_append : (xs ys : List ErrorRow) → some_applies (xs ++ ys) ≡ (some_applies xs || some_applies ys)
unfolding some_applies
applies_append [] ys = refl
applies_append (x ∷ xs) ys = go x.applies (applies_append xs ys)
  where
    go : (b : Bool) → some_applies (xs ++ ys) ≡ (some_applies xs || some_applies ys) → (b || some_applies (xs ++ ys)) ≡ ((b || some_applies xs) || some_applies ys)
    go true e = refl
    go false e = e

first_append : (xs ys : List ErrorRow) → first_that_applies (xs ++ ys) ≡ cond (some_applies xs) (first_that_applies xs) (first_that_applies ys)
unfolding some_applies first_that_applies
first_append [] ys = refl
first_append (x ∷ xs) ys = go x.applies (first_append xs ys)
  where
    go : (b : Bool) → first_that_applies (xs ++ ys) ≡ cond (some_applies xs) (first_that_applies xs) (first_that_applies ys)
        → cond b x.code (first_that_applies (xs ++ ys)) ≡ cond (b || some_applies xs) (cond b x.code (first_that_applies xs)) (first_that_applies ys)
    go true e = refl
    go false e = e

-- Two lists of rows, one after the other, refuse as the one of both does.
run_unless : (xs ys : List ErrorRow) (p : Effect) (m : Program.Rows Row) → run same_key (unless_refused xs (unless_refused ys p)) m ≡ run same_key (unless_refused (xs ++ ys) p) m
unfolding unless_refused run
run_unless xs ys p m = rw (applies_append xs ys, first_append xs ys) (go (some_applies xs))
  where
    go : (b : Bool) → run same_key (provided b then refuse (first_that_applies xs) else provided some_applies ys then refuse (first_that_applies ys) else p) m
        ≡ run same_key (provided b || some_applies ys then refuse (cond b (first_that_applies xs) (first_that_applies ys)) else p) m
    go true = refl
    go false = refl

-- ── A call, refused or not ──

run_program : (m : Model) (c : Call) → run same_key (program m.environment c) m.rows
    ≡ run same_key (unless_refused (error_table (view_of m c) c) (effect m.environment (view_of m c) c)) m.rows
unfolding program error_table unless_refused run
run_program m c =
    run_run_first same_key (see_caller e c) _ m.rows
    ∙ (ap (λ (o : Result (Program.Rows Row) CallerView). run same_key (first_stage o.answer) o.state) (run_see_caller e c m.rows)
    ∙ (second_stage (some_applies (rows_to_step_4 caller c)) ∙ (run_unless _ _ _ m.rows ∙ ap whole (sym (view_is m c)))))
  where
    e : Environment
    e = m.environment

    caller : CallerView
    caller = caller_seen m.rows c

    rest : View → Effect
    rest v = unless_refused (rows_from_step_5 v c) (effect e v c)

    first_stage : CallerView → Effect
    first_stage x = unless_refused (rows_to_step_4 x c) (run_first (see_named e c x) rest)

    whole : View → Result (Program.Rows Row) Answer
    whole v = run same_key (unless_refused (rows_to_step_4 v.caller c ++ rows_from_step_5 v c) (effect e v c)) m.rows

    second_stage : (b : Bool) → run same_key (provided b then refuse (first_that_applies (rows_to_step_4 caller c)) else run_first (see_named e c caller) rest) m.rows
        ≡ run same_key (provided b then refuse (first_that_applies (rows_to_step_4 caller c)) else rest (rows_seen m.rows c)) m.rows
    second_stage true = refl
    second_stage false = run_run_first same_key (see_named e c caller) rest m.rows
        ∙ ap (λ (o : Result (Program.Rows Row) View). run same_key (rest o.answer) o.state) (run_see_named e c m.rows caller)

-- A refused call answers the table's code, and its rows stay.
pub run_refused : (m : Model) (c : Call) → T (refused (view_of m c) c)
    → run same_key (program m.environment c) m.rows ≡ record { state = m.rows; answer = finished (refusal (view_of m c) c) 0 0 0 }
unfolding unless_refused refused refusal
run_refused m c t = run_program m c ∙ (run_yes same_key _ _ _ m.rows t ∙ run_return same_key _ m.rows)

-- An accepted call has its effect.
pub run_accepted : (m : Model) (c : Call) → T (not (refused (view_of m c) c))
    → run same_key (program m.environment c) m.rows ≡ run same_key (effect m.environment (view_of m c) c) m.rows
unfolding unless_refused refused
run_accepted m c t = run_program m c ∙ run_no same_key _ _ _ m.rows t

-- Number 0 is the tick.
pub step_tick : (m : Model) (c : Call) → T (eqb c.number 0) → step m c ≡ tick m
unfolding step
step_tick m c t = cond_yes (eqb c.number 0) (tick m) (call m c) t

-- A call that is no tick is its program's step.
pub step_call : (m : Model) (c : Call) → T (not (eqb c.number 0)) → step m c ≡ step_of same_key program m c
unfolding step call
step_call m c t = cond_no (eqb c.number 0) _ _ t

-- The call with another number, for what is shown for each number in turn.
abbrev pub numbered : ℕ → Call → Call
numbered n c = record { number = n; caller = c.caller; locked = c.locked; disabled = c.disabled; object = c.object; value = c.value; tmout = c.tmout; attribute = c.attribute }
