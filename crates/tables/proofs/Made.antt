-- What the walk over the two tables leaves is what document 02's item 2 asks: by the test, and by the turns that were made. Calls, answers and codes may be written otherwise, as for hosts.
use mathlib.Core.Path.{◌≡◌, refl, sym, ap, ◌∙◌}
use mathlib.Core.Bool.{not, cond, false}
use mathlib.Core.List.{List, [], ◌∷◌, ◌++◌}
use Prim.Native.Nat.{ℕ, suc, ◌+◌, ◌<◌, ◌≤◌}
use native.Mathlib.Nat.{zero-add}
use native.Mathlib.Omega.{arith}
use lib.Dec.{T, T_not, ltb, nltb→le}
use lib.ListN.{length, drop, get_or, set, length-set}
use borrow.Author.Tests.{eq-eqb, ne_eqb}
use lib.Seq.{sets, sets-eq}
use Rattle.tables.proofs.Turns.{Rest, over, turn, next_turn, none_left}
use Rattle.rows.specs.Runs.{Run, no_call, one_call}
use Rattle.std.proofs.Common.{Result, Ok, Err}
use Rattle.lists.proofs.Tests.{passed_test}
use Rattle.model.specs.Sizes.{table_limit}
use Rattle.model.specs.Rows.{Model}
use Rattle.model.specs.Engine.{Engine, SteppedAs}
use Rattle.model.specs.Tables.{in_table, table_outside, TableMade}
use Rattle.model.specs.declared.Answer.{Answer}
use Rattle.model.specs.declared.Call.{Call}
use Rattle.model.specs.declared.Code.{Code}
use Rattle.model.specs.declared.Code.TheVariants.{Ok as E_OK}
use Rattle.model.proofs.Tests.{neither_right}
use Rattle.decide.specs.Decisions.{after}
use Rattle.decide.specs.Touches.{changed_by}
use Rattle.record.specs.declared.State.{State}
use Rattle.record.specs.declared.Step.{Step}
use Rattle.record.specs.Meaning.{abs}
use Rattle.record.specs.Sound.{Sound}
use Rattle.record.specs.Step.{state_engine}
use Rattle.decide.specs.declared.Decision.{Decision}
use Rattle.kernel.specs.Steps.{Judged, Applied}
use Rattle.kernel.proofs.Outcomes.{stepped, stays_sound}
use Rattle.kernel.proofs.Arms.{nothing_done}
use Rattle.tables.specs.Tested.{Tested}

-- ── One call ──

abbrev numbered : ℕ → Call → Call
numbered n c = record { number = n; caller = c.caller; locked = c.locked; disabled = c.disabled; object = c.object; value = c.value; tmout = c.tmout; attribute = c.attribute }

pub read_as_unknown : (c : Call) → c.number ≡ 0 → numbered 24 c ≡ in_table c
unfolding in_table
read_as_unknown c e = ap (λ b. numbered (cond b 24 c.number) c) (sym (eq-eqb _ _ e))

pub read_as_it_is : (c : Call) → (c.number ≡ 0 → ⊥) → c ≡ in_table c
unfolding in_table
read_as_it_is c n = ap (λ b. numbered (cond b 24 c.number) c) (sym (ne_eqb _ _ n))

module _ {C A : Type 0} (call_of : C → Call) (answer_of : Answer → A) where
  abbrev pub One : State → C → State → A → Type 0
  One = SteppedAs state_engine (λ c. in_table (call_of c)) answer_of

  module _ {s next : State} {c : C} {d : Decision} {given : A} (S : Sound s) (j : Judged s (in_table (call_of c)) d) where
    pub moves : {r : Step} → Applied s d r → next ≡ r.state → given ≡ answer_of r.answer → One s c next given × Sound next
    moves {r} a e given_is =
        let h = stepped a j in
        rw e (record { answer = r.answer; stepped = h; given_is = given_is }, stays_sound (in_table (call_of c)) h S)

    pub stays : {said : A} → false ≡ changed_by d → next ≡ s → given ≡ said → (T (not (changed_by d)) → (m : Model) → said ≡ answer_of (after m d).answer) → One s c next given × Sound next
    stays unchanged e given_is said_is =
        let still : T (not (changed_by d)) = rw (← unchanged) tt in
        rw e (record { answer = (after (abs s) d).answer; stepped = stepped (nothing_done d still refl) j; given_is = given_is ∙ said_is still (abs s) }, S)

-- ── All calls ──

pub record Ran {S C A : Type 0} (Steps : S → C → S → A → Type 0) (i : ℕ) (s : S) (calls : List C) (cells : List A) (last : S) (given : List A) : Type 0 where
  pub answers : List A
  pub run : Run Steps s calls last answers
  pub as_many : length answers ≡ length calls
  pub cells_are : given ≡ sets cells i answers

pub ran : {S C A : Type 0} {Steps : S → C → S → A → Type 0} {i : ℕ} {s last : S} {calls : List C} {cells given : List A} → Rest Steps i s calls cells last given → Ran Steps i s calls cells last given
ran over = record { answers = []; run = no_call; as_many = refl; cells_are = refl }
ran (turn o rest) =
    let r = ran rest in
    record { answers = _ ∷ r.answers; run = one_call o r.run; as_many = ap suc r.as_many; cells_are = r.cells_are }

-- The answers stand in the first cells, and the others keep theirs.
pub first_cells : {A : Type 0} (cells answers : List A) (n : ℕ) → length answers ≡ n → n ≤ length cells → sets cells 0 answers ≡ answers ++ drop n cells
first_cells cells answers n e h =
    sets-eq answers cells 0 (let k : length answers ≡ n = e in omega (arith, k, h)) ∙ ap (λ m. answers ++ drop m cells) (zero-add (length answers) ∙ e)

-- A table that isn't refused has a cell for each call.
pub enough : (calls cells : ℕ) → T (not (table_outside calls cells)) → calls ≤ cells
unfolding table_outside
enough calls cells n = nltb→le cells calls (neither_right (ltb table_limit calls) (ltb cells calls) n)

-- A table whose calls are made.
pub runs : {s : State} {calls cells : ℕ} {r : Result (Unit {0}) Code} → Tested s calls cells r → r ≡ Ok tt → Sound s × T (not (table_outside calls cells))
runs tested e = passed_test tested.runs_is (rw e tt)

-- ── The walk ──

-- Calls before i are made: whatever the others come to, all of them come to. There is a cell for each call, and the state is sound.
pub record Walking {C A : Type 0} (call_of : C → Call) (answer_of : Answer → A) (first : State) (calls : List C) (cells : List A) (i : ℕ) (s : State) (given : List A) : Type 0 where
  pub as_many : length given ≡ length cells
  pub enough_cells : length calls ≤ length cells
  pub sound : Sound s
  pub all : (last : State) (zs : List A) → Rest (One call_of answer_of) i s (drop i calls) given last zs → Rest (One call_of answer_of) 0 first calls cells last zs

module _ {C A : Type 0} {call_of : C → Call} {answer_of : Answer → A} {first : State} {calls : List C} {cells : List A} where
  pub walk_begins : {r : Result (Unit {0}) Code} → Tested first (length calls) (length cells) r → r ≡ Ok tt → Walking call_of answer_of first calls cells 0 first cells
  walk_begins tested e =
      let p = runs tested e in
      record { as_many = refl; enough_cells = enough (length calls) (length cells) p.1; sound = p.0; all = λ last zs rest. rest }

  module _ {i : ℕ} {s : State} {given : List A} (w : Walking call_of answer_of first calls cells i s given) where
    pub walk_goes_on : (c : C) {s' : State} {n : A} → i < length calls → One call_of answer_of s (get_or calls i c) s' n × Sound s' → Walking call_of answer_of first calls cells (i + 1) s' (set given i n)
    walk_goes_on c {n = n} more made = record {
      as_many = length-set given i n ∙ w.as_many;
      enough_cells = w.enough_cells;
      sound = made.1;
      all = λ last zs rest. w.all last zs (next_turn (One call_of answer_of) i n given calls c more made.0 rest);
    }

    pub walk_ends : length calls ≤ i → Ran (One call_of answer_of) 0 first calls cells s given
    walk_ends end = ran (w.all s given (none_left (One call_of answer_of) i s given calls end))

-- ── The whole table, on any engine's record h whose soundness is that of the state s ──

module _ {S C A K : Type 0} (E : Engine S) (call_of : C → Call) (answer_of : Answer → A) (code_of : Code → K) (h : S) (s : State) (to : E.Sound h → Sound s) (back : Sound s → E.Sound h) (calls : List C) (cells : List A) {code : K} {r : Result (Unit {0}) Code}
    (tested : Tested s (length calls) (length cells) r) where
  -- The test refuses.
  pub table_refused : {refusal : Code} → r ≡ Err refusal → code ≡ code_of refusal → TableMade E call_of answer_of code_of h calls cells h cells code
  table_refused {refusal} e code_is = record {
    unsound = λ f. record { code_is = with_code (tested.unsound (λ sound. f (back sound))); state_is = refl; cells_are = refl };
    outside = λ sound t. record { code_is = with_code (tested.outside (to sound) t); state_is = refl; cells_are = refl };
    otherwise = λ sound t. let ok = sym e ∙ tested.otherwise (to sound) t in cc;
  }
    where
      with_code : {known : Code} → r ≡ Err known → code ≡ code_of known
      with_code {known} k = let same : refusal ≡ known = cc in code_is ∙ ap code_of same

  -- It lets the calls be made, and they are.
  pub table_ran : r ≡ Ok tt → code ≡ code_of E_OK → {after : S} {given : List A} → Ran (SteppedAs E (λ c. in_table (call_of c)) answer_of) 0 h calls cells after given → TableMade E call_of answer_of code_of h calls cells after given code
  table_ran e code_is ran =
      let p = runs tested e in
      record {
        unsound = λ f. absurd (f (back p.0));
        outside = λ sound out. absurd (T_not (table_outside (length calls) (length cells)) p.1 out);
        otherwise = λ sound n. record {
          code_is = code_is;
          answers = ran.answers;
          run = ran.run;
          cells_are = ran.cells_are ∙ first_cells cells ran.answers (length calls) ran.as_many (enough (length calls) (length cells) p.1);
        };
      }
