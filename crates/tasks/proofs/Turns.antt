-- The tick, task by task: what is left of the program `expire` runs to what the whole of it runs to.
use Rattle.std.proofs.Common.{◌≡◌, ℕ, suc, ◌+◌, ◌-◌, ◌%◌, ◌<◌, ◌≤◌, true, false, not, T, List, ◌∷◌, sym, refl, ap, ◌∙◌, add-one, arith}
use mathlib.Core.Path.{fun_ext}
use Rattle.lists.specs.Lists.{ascending}
use Rattle.rows.specs.Program as Program
use Rattle.rows.specs.Program.{provided◌then◌else◌, run, Result}
use Rattle.rows.proofs.Run.{run_yes, run_no}
use Rattle.model.specs.Sizes.{task_limit, counter_span}
use Rattle.model.specs.Rows.{Key, task, suspension, queue, mailbox, message, same_key, valid, Row, TaskRow}
use Rattle.model.specs.Codes.{finished}
use Rattle.model.specs.Waits.{able, wait_end, due}
use Rattle.model.specs.WaitQueues.{end_wait}
use Rattle.model.specs.Tasks.{expire, tick}
use Rattle.model.specs.WellFormed.{WellFormedRows}
use Rattle.model.specs.declared.Answer.{Answer}
use Rattle.model.specs.declared.Code.TheVariants.{Ok as E_OK, Tmout as E_TMOUT}
use Rattle.model.proofs.Tests.{to_within}
use Rattle.model.proofs.KeptTick.{due_waits}
use Rattle.parts.specs.Tasks.{read_code}
use Rattle.record.specs.declared.State.{State}
use Rattle.record.specs.Meaning.{task_at, abs}
use Rattle.record.specs.Sound.{Readable, Sound}
use Rattle.record.proofs.Rows.{row_is}
use Rattle.record.proofs.Laws.{counter_is}
use Rattle.waits.specs.Waiting.{Endable, Ended}
use Rattle.waits.proofs.Laws.{rows_of}
use Rattle.waits.proofs.Ends.{endable, end_becomes, end_runs, end_kept}
use Rattle.tasks.specs.Tick.{Ticked}

-- ── The counter ──

abbrev with_counter : ℕ → State → State
with_counter counter s = record { counter = counter; tasks = s.tasks; waiting = s.waiting; queues = s.queues; mailboxes = s.mailboxes; messages = s.messages }

module _ (s : State) (counter : ℕ) where
  -- No row has to do with the counter.
  counter_unseen : (abs (with_counter counter s)).rows ≡ (abs s).rows
  unfolding abs
  counter_unseen = fun_ext row
    where
      row : (k : Key) → (abs (with_counter counter s)).rows k ≡ (abs s).rows k
      row (task t) = refl
      row (suspension t) = refl
      row (queue q) = refl
      row (mailbox b) = refl
      row (message g) = refl

  with_counter_readable : Readable s → Readable (with_counter counter s)
  with_counter_readable R = record {
    sizes = record { tasks = R.sizes.tasks; queues = R.sizes.queues; mailboxes = R.sizes.mailboxes; task_keys = R.sizes.task_keys; message_keys = R.sizes.message_keys };
    waiting = R.waiting;
    messages = R.messages;
    queues = R.queues;
    mailboxes = R.mailboxes;
  }

-- ── Turn by turn ──

-- s₀ is the record with the counter advanced, s the record when task t's turn comes, and n waits have ended.
pub record Ticking (counter : ℕ) (s₀ s : State) (n t : ℕ) : Type 0 where
  pub readable : Readable s
  pub counter_is : s.counter ≡ counter
  pub inside : counter < counter_span
  pub low : 1 ≤ t
  pub high : t ≤ suc task_limit
  pub few : n < t
  pub rows : WellFormedRows (abs s).rows
  pub runs : run same_key (expire counter (ascending t (suc task_limit - t)) n) (abs s).rows ≡ run same_key (expire counter (ascending 1 task_limit) 0) (abs s₀).rows

pub ticking_begins : {s : State} → Sound s → {counter : ℕ} → counter ≡ (s.counter + 1) % counter_span → Ticking counter (with_counter counter s) (with_counter counter s) 0 1
ticking_begins {s} S {counter} e = record {
  readable = with_counter_readable s counter S.readable;
  counter_is = refl;
  inside = omega arith;
  low = omega arith;
  high = omega arith;
  few = omega arith;
  rows = rw (counter_unseen s counter) (rows_of S);
  runs = refl;
}

module _ {counter : ℕ} {s₀ s : State} {n t : ℕ} (i : Ticking counter s₀ s n t) (h : t ≤ task_limit) where
  turn_valid : T (valid (task t))
  turn_valid = to_within 1 task_limit t i.low h

  wait_is : ((abs s).rows (task t)).wait ≡ (task_at s t).wait
  wait_is = ap (λ (x : TaskRow). x.wait) (row_is s (task t) turn_valid)

  abbrev rest : List ℕ
  rest = ascending (t + 1) (suc task_limit - (t + 1))

  -- What is left of the program begins with the task's turn.
  turn_runs : run same_key (expire counter (ascending t (suc task_limit - t)) n) (abs s).rows
      ≡ run same_key (provided due counter (wait_end ((abs s).rows (task t)).wait) then end_wait t E_TMOUT (expire counter rest (suc n)) else expire counter rest n) (abs s).rows
  unfolding run expire ascending
  turn_runs = ap (λ l. run same_key (expire counter l n) (abs s).rows) first
    where
      first : ascending t (suc task_limit - t) ≡ t ∷ rest
      first = ap (ascending t) (let e : suc task_limit - t ≡ suc (suc task_limit - (t + 1)) = omega arith in e) ∙ rw (add-one t) refl

  -- The wait goes on.
  pub turn_passes : due counter (wait_end (task_at s t).wait) ≡ false → Ticking counter s₀ s n (t + 1)
  turn_passes d =
      let no : T (not (due counter (wait_end ((abs s).rows (task t)).wait))) = rw (wait_is, d) tt in
      record {
        readable = i.readable;
        counter_is = i.counter_is;
        inside = i.inside;
        low = omega arith;
        high = omega arith;
        few = let f = i.few in omega arith;
        rows = i.rows;
        runs = sym (run_no same_key _ _ _ _ no) ∙ (sym turn_runs ∙ i.runs);
      }

  -- The wait ends.
  module _ (d : due counter (wait_end (task_at s t).wait) ≡ true) where
    waits : T (not (able ((abs s).rows (task t)).wait))
    waits = rw wait_is (due_waits counter (task_at s t).wait (rw d tt))

    pub turn_endable : Endable s t
    turn_endable = endable i.readable i.rows t turn_valid waits

    -- The number 50 that is stored is read as E_TMOUT.
    pub turn_ends : {r : State} → Ended s t (read_code 50) r → Ticking counter s₀ r (n + 1) (t + 1)
    unfolding read_code
    turn_ends ended =
        let b = end_becomes waits ended in
        let yes_due : T (due counter (wait_end ((abs s).rows (task t)).wait)) = rw (wait_is, d) tt in
        record {
          readable = b.readable;
          counter_is = counter_is b ∙ i.counter_is;
          inside = i.inside;
          low = omega arith;
          high = omega arith;
          few = let f = i.few in omega arith;
          rows = end_kept waits ended tt i.rows;
          runs = rw (add-one n) (sym (end_runs waits ended _) ∙ (sym (run_yes same_key _ _ _ _ yes_due) ∙ (sym turn_runs ∙ i.runs)));
        }

pub ticking_ends : {s r : State} {counter n t : ℕ} {x : Answer} → counter ≡ (s.counter + 1) % counter_span → Ticking counter (with_counter counter s) r n t → task_limit < t
    → x ≡ finished E_OK n 0 0 → Ticked s (record { state = r; answer = x })
unfolding run expire ascending tick abs
ticking_ends {s} {r} {counter} {n} {t} {x} e i h f = record {
  meaning_is = λ k. record { environment = record { counter = (i.counter_is ∙ e) k }; rows = (whole k).state };
  answer_is = f ∙ ap (λ (o : Result (Program.Rows Row) Answer). o.answer) whole;
  readable = i.readable;
}
  where
    none_left : (k : ℕ) → k ≡ 0 → run same_key (expire counter (ascending t k) n) (abs r).rows ≡ record { state = (abs r).rows; answer = finished E_OK n 0 0 }
    none_left k z = rw z

    whole : ◌≡◌ {A = Result (Program.Rows Row) Answer} (record { state = (abs r).rows; answer = finished E_OK n 0 0 }) (run same_key (expire ((s.counter + 1) % counter_span) (ascending 1 task_limit) 0) (abs s).rows)
    whole =
        sym (none_left (suc task_limit - t) (let l = i.high in omega arith))
        ∙ (i.runs
        ∙ (ap (run same_key (expire counter (ascending 1 task_limit) 0)) (counter_unseen s counter)
        ∙ ap (λ j. run same_key (expire j (ascending 1 task_limit) 0) (abs s).rows) e))
