-- Calls made on the state that a host's record holds, the record being written back after the last one, are calls made on the record: between two calls it is the record that the state would be written back to.
use mathlib.Core.Path.{◌≡◌, sym, ap, ◌∙◌, subst}
use mathlib.Core.List.{List}
use lib.Dec.{T}
use lib.ListN.{length, length-map}
use Rattle.rows.specs.Runs.{Run, no_call, one_call}
use Rattle.model.specs.Codes.{values}
use Rattle.model.specs.Calls.{view_of}
use Rattle.model.specs.Errors.{refused}
use Rattle.model.specs.Step.{step}
use Rattle.model.specs.Engine.{Stepped, SteppedAs}
use Rattle.model.specs.declared.Answer.{Answer}
use Rattle.model.specs.declared.Call.{Call}
use Rattle.host_tasks.specs.Tasks.{read_task}
use Rattle.host_tasks.proofs.Rewriting.{all_read_again, all_stay_so}
use Rattle.record.specs.declared.State.{State}
use Rattle.record.specs.Meaning.{abs}
use Rattle.record.specs.Sound.{Sound}
use Rattle.record.specs.Step.{state_engine}
use Rattle.kernel.proofs.Outcomes.{stays_sound}
use Rattle.tables.proofs.Made.{Ran}
use Rattle.host_record.specs.declared.HostRecord.{HostRecord}
use Rattle.host_record.specs.Record.{state_of, host_engine}
use Rattle.host_record.specs.Written.{restored}

-- A record that is written back as it was read is the very record.
pub as_it_was : (lent : HostRecord) → restored lent (state_of lent) ≡ lent
unfolding restored state_of
as_it_was lent = λ i. record {
  counter = lent.counter;
  tasks = all_stay_so lent.tasks i;
  queues = lent.queues;
  waiting = lent.waiting;
  messages = lent.messages;
  mailboxes = lent.mailboxes;
  spare = lent.spare;
}

module _ (lent : HostRecord) (size : length lent.tasks ≡ 33) where
  -- A state that is written back is read again.
  held : {s : State} → Sound s → state_of (restored lent s) ≡ s
  unfolding restored state_of
  held {s} S = λ i. record {
    counter = s.counter;
    tasks = all_read_again lent.tasks s.tasks (size ∙ sym S.readable.sizes.tasks) i;
    queues = s.queues;
    waiting = s.waiting;
    messages = s.messages;
    mailboxes = s.mailboxes;
  }

  -- A step of a sound state is a step of the record that the state is written back to.
  on_record : {s after : State} {c : Call} {answer : Answer} → Sound s → Sound after → Stepped state_engine s c after answer → Stepped host_engine (restored lent s) c (restored lent after) answer
  on_record {s} {after} {c} {answer} S S' h = record {
    unknown = λ n. let r = h.unknown n in record { state_is = ap (restored lent) r.state_is; finished_with = r.finished_with };
    unsound = λ n f. absurd (f (subst Sound (sym (held S)) S));
    sound = λ n _.
        let r = h.sound n S in
        let same : abs s ≡ abs (state_of (restored lent s)) = ap abs (sym (held S)) in
        record {
          answer_is = r.answer_is ∙ ap (λ m. (step m c).answer) same;
          values_are = r.values_are ∙ ap (λ m. values (step m c).answer) same;
          meaning_is = ap abs (held S') ∙ (r.meaning_is ∙ ap (λ m. (step m c).state) same);
          sound = subst Sound (sym (held S')) S';
          unchanged = λ k t. ap (restored lent) (r.unchanged k (subst (λ m. T (refused (view_of m c) c)) (sym same) t));
        };
  }

  module _ {C A : Type 0} (call_of : C → Call) (answer_of : Answer → A) where
    pub runs_on_record : {s last : State} {calls : List C} {answers : List A} → Sound s → Run (SteppedAs state_engine call_of answer_of) s calls last answers
        → Run (SteppedAs host_engine call_of answer_of) (restored lent s) calls (restored lent last) answers
    runs_on_record S no_call = no_call
    runs_on_record S (one_call {c = c} h rest) =
        let S' = stays_sound (call_of c) {r = record { state = _; answer = h.answer }} h.stepped S in
        one_call (record { answer = h.answer; stepped = on_record S S' h.stepped; given_is = h.given_is }) (runs_on_record S' rest)

-- The same where the record that is lent is sound.
pub read_back : (lent : HostRecord) → Sound (state_of lent) → {s : State} → Sound s → state_of (restored lent s) ≡ s
unfolding state_of
read_back lent L = held lent (sym (length-map lent.tasks read_task) ∙ L.readable.sizes.tasks)

-- All calls of a table, from the record that is lent to the one that is written back.
pub record_ran : {C A : Type 0} (call_of : C → Call) (answer_of : Answer → A) (lent : HostRecord) {s last : State} {calls : List C} {cells given : List A} {after : HostRecord} → s ≡ state_of lent → Sound s → after ≡ restored lent last
    → Ran (SteppedAs state_engine call_of answer_of) 0 s calls cells last given → Ran (SteppedAs host_engine call_of answer_of) 0 lent calls cells after given
unfolding state_of
record_ran call_of answer_of lent {s} {last} {calls} {after = after} e S stored r = record {
  answers = r.answers;
  run = subst (λ u. Run (SteppedAs host_engine call_of answer_of) lent calls u r.answers) (sym stored)
      (subst (λ u. Run (SteppedAs host_engine call_of answer_of) u calls (restored lent last) r.answers) (ap (restored lent) e ∙ as_it_was lent) (runs_on_record lent size call_of answer_of S r.run));
  as_many = r.as_many;
  cells_are = r.cells_are;
}
  where
    size : length lent.tasks ≡ 33
    size = sym (length-map lent.tasks read_task) ∙ (ap (λ (u : State). length u.tasks) (sym e) ∙ S.readable.sizes.tasks)
