-- For customers: a wait with an end tick ends in the last tick that is left to it, at the latest, and of its time-out in no other, however calls are made.
use Rattle.std.specs.Prelude.{◌≡◌, cond, List, map, ℕ, suc, ◌≤◌, T, eqb, pos}
use Rattle.std.proofs.Math.Option.{none, some}
use Rattle.rows.specs.Runs.{Run, no_call, one_call}
use Rattle.model.specs.Codes.{Values}
use Rattle.model.specs.Calls.{is_tick, has_tmout}
use Rattle.model.specs.Waits.{wait_end}
use Rattle.model.specs.WellFormed.{ticks_left}
use Rattle.model.specs.Endings.{timed_out, ended_with, ticks}
use Rattle.model.specs.Engine.{Engine}
use Rattle.model.specs.declared.Call.{Call}
use Rattle.model.specs.declared.End.TheVariants.{At}
use Rattle.demands.specs.Runs.{Interface}
use Rattle.demands.specs.Waiting.{task_in, waits_in, wait_begins_by}

-- The wait goes on in every record of the run: task t waits in the first, in each that a call handed back or left, and so in the last.
unfoldable pub WaitsThroughout : {S C A : Type 0} {Steps : S → C → S → A → Type 0} {s last : S} {calls : List C} {answers : List A}
    → Engine S → ℕ → Run Steps s calls last answers → Type 0
WaitsThroughout {s = s} E t no_call = T (waits_in E s t)
WaitsThroughout {s = s} E t (one_call h rest) = T (waits_in E s t) × WaitsThroughout E t rest

-- Tick k from s on ends the wait that task t has in s, with E_TMOUT and word 0 stored, and no tick before: of the ticks that come while the wait goes on, the
-- one that is the k-th.
abbrev pub TimesOutInTick : {S C A : Type 0} → Engine S → Interface S C A → S → ℕ → ℕ → Type 0
TimesOutInTick {S} {C} {A} E F s t k =
    (calls : List C) (last : S) (answers : List A) (run : Run F.Steps s calls last answers) → WaitsThroughout E t run
    → (c : C) → T (is_tick (F.call_of c)) → (after : S) (answer : A) → F.Steps last c after answer
    → ended_with (E.abs last).rows (E.abs after).rows t ≡ cond (eqb (suc (ticks (map F.call_of calls))) k) (some timed_out) none

-- By this answer a wait of task t with tmout n begins.
pub record BeginsWithTmoutBy (c : Call) (x : Values) (t n : ℕ) : Type 0 where
  pub begins : T (wait_begins_by c x t)
  pub timed : T (has_tmout c)
  pub tmout_is : c.tmout ≡ pos n

pub record TimeOutsKept {S C A : Type 0} (E : Engine S) (F : Interface S C A) : Type 0 where
  -- A wait with an end tick doesn't go on through any run that holds as many ticks as are left to it, or more, whatever else is called;
  pub none_outlives : (s : S) → E.Sound s → (t tick : ℕ) → wait_end (task_in E s t).wait ≡ At tick
      → (calls : List C) (last : S) (answers : List A) (run : Run F.Steps s calls last answers)
      → ticks_left (E.abs s).environment.counter tick ≤ ticks (map F.call_of calls)
      → WaitsThroughout E t run → ⊥
  -- it times out in the last of these.
  pub last_tick_ends : (s : S) → E.Sound s → (t tick : ℕ) → wait_end (task_in E s t).wait ≡ At tick
      → TimesOutInTick E F s t (ticks_left (E.abs s).environment.counter tick)
  -- So a wait begun with tmout n doesn't go on through n + 1 ticks after the call;
  pub none_outlives_tmout : (s : S) → E.Sound s → (c : C) (after : S) (answer : A) → F.Steps s c after answer
      → (t n : ℕ) → BeginsWithTmoutBy (F.call_of c) (F.values_of answer) t n
      → (calls : List C) (last : S) (answers : List A) (run : Run F.Steps after calls last answers)
      → suc n ≤ ticks (map F.call_of calls)
      → WaitsThroughout E t run → ⊥
  -- it times out in tick n + 1 (document 02, item 1): tmout n waits at least n ms and less than n + 1.
  pub tick_after_tmout_ends : (s : S) → E.Sound s → (c : C) (after : S) (answer : A) → F.Steps s c after answer
      → (t n : ℕ) → BeginsWithTmoutBy (F.call_of c) (F.values_of answer) t n → TimesOutInTick E F after t (suc n)
  -- No wait begins with tmout 0, which polls.
  pub none_with_tmout_0 : (s : S) → E.Sound s → (c : C) (after : S) (answer : A) → F.Steps s c after answer
      → (t : ℕ) → BeginsWithTmoutBy (F.call_of c) (F.values_of answer) t 0 → ⊥
  -- In no record that a run reaches from a sound one has the counter come to the end tick of a wait.
  pub end_tick_ahead : (s : S) → E.Sound s → (calls : List C) (last : S) (answers : List A) → Run F.Steps s calls last answers
      → (t : ℕ) → wait_end (task_in E last t).wait ≡ At (E.abs last).environment.counter → ⊥
