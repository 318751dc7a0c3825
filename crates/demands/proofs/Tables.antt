-- Tables of calls on records: a table follows the definition; so demand 3 holds of lists of calls and tables, and what it says of them holds of lists of calls.
use mathlib.Core.Path.{◌≡◌, refl, sym, ◌∙◌, ap, ap₂, subst}
use mathlib.Core.Bool.{Bool, true, false, not, cond}
use mathlib.Core.List.{List, [], ◌∷◌, ◌++◌, map, map-map, flat_map, head-eq_of_cons-eq}
use Prim.Native.Nat.{ℕ}
use lib.Dec.{T}
use lib.ListN.{length, drop, length-map}
use Rattle.lists.specs.Lists.{Each, none, both}
use Rattle.lists.proofs.Each.{each_append}
use Rattle.rows.specs.Program as Program
use Rattle.rows.specs.Runs.{end, answers, in_a_row, Run, no_call, one_call}
use Rattle.rows.specs.Merge.{Merge, done, left, right}
use Rattle.rows.specs.Merges.{share, MergeOf}
use Rattle.rows.proofs.Two.{keep_yes, keep_no}
use Rattle.rows.proofs.InARow.{MadeOf}
use Rattle.model.specs.Rows.{Model}
use Rattle.model.specs.Step.{step}
use Rattle.model.specs.Engine.{Engine, Lawful}
use Rattle.model.specs.Tables.{in_table, table_outside, table_code, calls_made, table_step, NothingDone, AllMade, TableMade}
use Rattle.model.specs.Isolation.{Own}
use Rattle.model.specs.declared.Answer.{Answer}
use Rattle.model.specs.declared.Call.{Call}
use Rattle.model.specs.declared.Code.{Code}
use Rattle.model.specs.declared.Code.TheVariants.{Ok as E_OK, Par as E_PAR}
use Rattle.model.specs.WellFormed.{WellFormed}
use Rattle.model.proofs.WellFormed.{kept_well_formed}
use Rattle.model.proofs.Isolation.{placed_at_empty}
use Rattle.record.specs.Step.{state_engine}
use Rattle.record.proofs.Equal.{state_lawful}
use Rattle.demands.specs.Runs.{RunOfTurns, no_turn, one_turn, model_engine, Interface}
use Rattle.demands.specs.Isolated.{Undisturbed, AllUndisturbed}
use Rattle.demands.specs.Tables.{Tables, TablesFollow, Entry, a_call, a_table, Given, an_answer, a_code, calls_in, given_values, EntrySteps, call_made, table_made}
use Rattle.demands.specs.Tables.{IsolatedWithTables, IsolatedWithTablesFromEmpty, IsolatedManyWithTables, WithoutTables, ManyWithoutTables, tables_by_value, ModelsRunWithTables}
use Rattle.demands.proofs.Runs.{model_steps, models_run_as, Faithful, by_value_faithful, AsDefined, StepsAsDefined, written, steps_as_defined, calls_as_defined, run_written}
use Rattle.demands.proofs.Isolated.{merge_map, undisturbed, all_undisturbed}

-- ── A table on a sound record is the definition's ──

module _ {S C A K : Type 0} (E : Engine S) (call_of : C → Call) (answer_of : Answer → A) (code_of : Code → K) where
  -- A table counts as the same calls, however they are written: it is refused by their number alone.
  calls_read : (calls : List C) (n : ℕ) → calls_made (map call_of calls) n ≡ cond (table_outside (length calls) n) [] (map (λ c. in_table (call_of c)) calls)
  unfolding calls_made
  calls_read calls n = ap₂ (λ k l. cond (table_outside k n) [] l) (length-map calls call_of) (map-map in_table call_of calls)

  pub tables_follow : TablesFollow E call_of answer_of code_of
  unfolding table_code table_step in_a_row end answers
  tables_follow s calls cells after given code h sound =
      let f = subst (Shown _) (sym (calls_read calls (length cells))) (go (table_outside (length calls) (length cells)) (h.outside sound) (h.otherwise sound)) in
      record { code_is = f.0; meaning_is = f.1; cells_are = f.2; sound = f.3 }
    where
      Shown : Code → List Call → Type 0
      Shown shown made =
          (code ≡ code_of shown) × (E.abs after ≡ end step (E.abs s) made)
          × (given ≡ map answer_of (answers step (E.abs s) made) ++ drop (length made) cells) × E.Sound after

      go : (outside : Bool) → (T outside → NothingDone E call_of answer_of code_of s calls cells after given code E_PAR)
          → (T (not outside) → AllMade E call_of answer_of code_of s calls cells after given code)
          → Shown (cond outside E_PAR E_OK) (cond outside [] (map (λ c. in_table (call_of c)) calls))
      go true nothing all = let k = nothing tt in (k.code_is, ap E.abs k.state_is, k.cells_are, subst E.Sound (sym k.state_is) sound)
      go false nothing all =
          let k = all tt in
          let f = run_written (λ c. in_table (call_of c)) answer_of (steps_as_defined _ answer_of) sound k.run in
          (k.code_is, f.meaning_is, k.cells_are ∙ ap₂ (λ l n. l ++ drop n cells) f.given_is (sym (length-map calls (λ c. in_table (call_of c)))), f.sound)

-- ── Demand 3 with tables ──

-- Every table keeps the engine's contract, its code written otherwise.
pub record FaithfulTables {S C A K : Type 0} {E : Engine S} {F : Interface S C A} (faithful : Faithful E F) (G : Tables F K) : Type 0 where
  pub code_of : Code → K
  pub makes : {s after : S} {calls : List C} {cells given : List A} {code : K}
      → G.Makes s calls cells after given code → TableMade E F.call_of faithful.answer_of code_of s calls cells after given code

-- What an entry does to a state, and that it is made of its calls.
module _ {C A K : Type 0} (call_of : C → Call) (answer_of : Answer → A) (code_of : Code → K) where
  abbrev table_given : List C → List A → List Answer → Given A K
  table_given calls cells given =
      a_code (code_of (table_code (length calls) (length cells))) (map answer_of given ++ drop (length (calls_made (map call_of calls) (length cells))) cells)

  abbrev entry_step : Model → Entry C A → Program.Result Model (Given A K)
  entry_step m (a_call c) = let o = written call_of answer_of m c in record { state = o.state; answer = an_answer o.answer }
  entry_step m (a_table calls cells) = let o = table_step m (map call_of calls) (length cells) in record { state = o.state; answer = table_given calls cells o.answer }

  entries_made : MadeOf step entry_step (flat_map (calls_in call_of))
  unfolding flat_map table_step in_a_row end answers
  entries_made = record {
    row = calls_in call_of;
    no_entry = refl;
    one_entry = λ e es. refl;
    state_is = same_end;
    by_answers = same_given;
  }
    where
      same_end : (m : Model) (e : Entry C A) → (entry_step m e).state ≡ end step m (calls_in call_of e)
      same_end m (a_call c) = refl
      same_end m (a_table calls cells) = refl

      same_given : (m n : Model) (e : Entry C A) → answers step m (calls_in call_of e) ≡ answers step n (calls_in call_of e) → (entry_step m e).answer ≡ (entry_step n e).answer
      same_given m n (a_call c) h = ap (λ x. an_answer (answer_of x)) (head-eq_of_cons-eq h)
      same_given m n (a_table calls cells) h = ap (table_given calls cells) h

each_flat : {X Y : Type 0} {f : X → List Y} {P : Y → Type 0} {l : List X} → Each (λ x. Each P (f x)) l → Each P (flat_map f l)
unfolding flat_map
each_flat none = none
each_flat (both p ps) = each_append p (each_flat ps)

module _ {S C A K : Type 0} {E : Engine S} (lawful : Lawful E) {F : Interface S C A} (faithful : Faithful E F) {G : Tables F K} (tables : FaithfulTables faithful G) where
  entry_as_defined : {s after : S} {e : Entry C A} {given : Given A K} → E.Sound s → EntrySteps G s e after given
      → AsDefined E (entry_step F.call_of faithful.answer_of tables.code_of) s e after given
  entry_as_defined sound (call_made h) =
      let f = (calls_as_defined faithful).each_step sound h in record { meaning_is = f.meaning_is; given_is = ap an_answer f.given_is; sound = f.sound }
  entry_as_defined sound (table_made h) =
      let f = tables_follow E F.call_of faithful.answer_of tables.code_of _ _ _ _ _ _ (tables.makes h) sound in
      record { meaning_is = f.meaning_is; given_is = ap₂ a_code f.code_is f.cells_are; sound = f.sound }

  entries_as_defined : StepsAsDefined E (EntrySteps G) (entry_step F.call_of faithful.answer_of tables.code_of)
  entries_as_defined = record { each_step = λ sound h. entry_as_defined sound h }

  made : MadeOf step (entry_step F.call_of faithful.answer_of tables.code_of) (flat_map (calls_in F.call_of))
  made = entries_made F.call_of faithful.answer_of tables.code_of

  pub isolated_with_tables : IsolatedWithTables G E
  isolated_with_tables s sound a b placed_a placed_b xs ys two =
      undisturbed lawful entries_as_defined made (given_values F.values_of G.number_of) s sound a b placed_a placed_b xs ys
      (record { disjoint = two.disjoint; calls_of_a = each_flat two.calls_of_a; calls_of_b = each_flat two.calls_of_b })

  pub isolated_with_tables_from_empty : IsolatedWithTablesFromEmpty G E
  isolated_with_tables_from_empty s sound counter e a b = isolated_with_tables s sound a b (placed_at_empty e (Own a)) (placed_at_empty e (Own b))

  pub isolated_many_with_tables : IsolatedManyWithTables G E
  isolated_many_with_tables I same_owner s sound o lists placed own =
      all_undisturbed lawful entries_as_defined made (given_values F.values_of G.number_of) I same_owner s sound o lists placed (λ i. each_flat (own i))

-- ── Lists of calls as lists of entries ──

-- Every entry gave an answer, and these are they.
data Answered {A K : Type 0} : List (Given A K) → List A → Type 0 where
  no_answer : Answered [] []
  one_answer : {x : A} {given : List (Given A K)} {xs : List A} → Answered given xs → Answered (an_answer x ∷ given) (x ∷ xs)

module _ {A K : Type 0} where
  answered : (xs : List A) → Answered {K = K} (map an_answer xs) xs
  answered [] = no_answer
  answered (x ∷ xs) = one_answer (answered xs)

  same_answers : {given : List (Given A K)} {xs ys : List A} → Answered given xs → Answered given ys → xs ≡ ys
  same_answers no_answer no_answer = refl
  same_answers (one_answer {x = x} p) (one_answer q) = ap (λ l. x ∷ l) (same_answers p q)

  merge_answered : {turns : List Bool} {x_given y_given z_given : List (Given A K)} {xs ys zs : List A}
      → Merge turns x_given y_given z_given → Answered x_given xs → Answered y_given ys → Answered z_given zs → Merge turns xs ys zs
  merge_answered done no_answer no_answer no_answer = done
  merge_answered (left m) (one_answer p) q (one_answer o) = left (merge_answered m p q o)
  merge_answered (right m) p (one_answer q) (one_answer o) = right (merge_answered m p q o)

-- What f makes of each turn's call or answer, and of an owner's share of the turns.
abbrev each_turn : {I X Y : Type 0} → (X → Y) → List (I × X) → List (I × Y)
each_turn f turns = map (λ turn. (turn.0, f turn.1)) turns

share_each : {I X Y : Type 0} (same_owner : Discrete I) (f : X → Y) (i : I) (turns : List (I × X)) → share same_owner i (each_turn f turns) ≡ map f (share same_owner i turns)
unfolding share
share_each same_owner f i [] = refl
share_each same_owner f i ((j, x) ∷ turns) = elim (same_owner j i) [
  | yes p ↦ simp (keep_yes, share_each same_owner f i turns)
  | no n ↦ simp (keep_no, share_each same_owner f i turns)
]

module _ {S C A K : Type 0} {F : Interface S C A} (G : Tables F K) (E : Engine S) where
  run_of_entries : {s last : S} {calls : List C} {given : List A} → Run F.Steps s calls last given → Run (EntrySteps G) s (map a_call calls) last (map an_answer given)
  run_of_entries no_call = no_call
  run_of_entries (one_call h rest) = one_call (call_made h) (run_of_entries rest)

  turns_of_entries : {I : Type 0} {s last : S} {turns : List (I × C)} {given : List (I × A)}
      → RunOfTurns F.Steps s turns last given → RunOfTurns (EntrySteps G) s (each_turn a_call turns) last (each_turn an_answer given)
  turns_of_entries no_turn = no_turn
  turns_of_entries (one_turn h rest) = one_turn (call_made h) (turns_of_entries rest)

  each_entry : {P : Call → Type 0} {calls : List C} → Each (λ c. P (F.call_of c)) calls → Each (λ e. Each P (calls_in {A = A} F.call_of e)) (map a_call calls)
  each_entry none = none
  each_entry (both p ps) = both (both p none) (each_entry ps)

  pub without_tables : WithoutTables G E
  without_tables isolated s sound a b placed_a placed_b xs ys two = record {
    answers_alone = λ {turns} m {x_answers = x} {y_answers = y} {z_answers = z} p q o.
        let merged = (h.answers_alone (merge_map a_call m) (run_of_entries p) (run_of_entries q) (run_of_entries o)).answers in
        let answers : Merge turns x y z = merge_answered merged (answered x) (answered y) (answered z) in
        record { answers = answers; values = merge_map F.values_of answers };
    one_end = λ m n p q. h.one_end (merge_map a_call m) (merge_map a_call n) (run_of_entries p) (run_of_entries q);
    end_sound = λ m p. h.end_sound (merge_map a_call m) (run_of_entries p);
  }
    where
      h : Undisturbed E (EntrySteps G) (given_values F.values_of G.number_of) s (map a_call xs) (map a_call ys)
      h = isolated s sound a b placed_a placed_b (map a_call xs) (map a_call ys)
          (record { disjoint = two.disjoint; calls_of_a = each_entry two.calls_of_a; calls_of_b = each_entry two.calls_of_b })

  pub many_without_tables : ManyWithoutTables G E
  unfolding flat_map
  many_without_tables isolated I same_owner s sound o lists placed own = record {
    answers_alone = λ {turns} m {answers = z} p i {i_answers = x} q.
        let same = sym (share_each same_owner an_answer i z) ∙ (h.answers_alone (read turns m) (turns_of_entries p) i (run_of_entries q)).0 in
        let e = same_answers (rw same at (answered {K = K} (share same_owner i z))) (answered x) in
        (e, ap (map F.values_of) e);
    one_end = λ {turns} {turns'} m n p q. h.one_end (read turns m) (read turns' n) (turns_of_entries p) (turns_of_entries q);
    end_sound = λ {turns} m p. h.end_sound (read turns m) (turns_of_entries p);
  }
    where
      h : AllUndisturbed same_owner E (EntrySteps G) (given_values F.values_of G.number_of) s (λ i. map a_call (lists i))
      h = isolated I same_owner s sound o (λ i. map a_call (lists i))
          (λ i calling. placed i (λ e. calling (ap (λ l. flat_map (calls_in {A = A} F.call_of) (map a_call l)) e))) (λ i. each_entry (own i))

      read : (turns : List (I × C)) → MergeOf same_owner lists turns → MergeOf same_owner {X = Entry C A} (λ i. map a_call (lists i)) (each_turn a_call turns)
      read turns m i = share_each same_owner a_call i turns ∙ ap (map a_call) (m i)

-- ── The record `State` ──

pub states_tables_follow : TablesFollow state_engine (λ c. c) (λ x. x) (λ code. code)
states_tables_follow = tables_follow state_engine (λ c. c) (λ x. x) (λ code. code)

by_value_tables : FaithfulTables (by_value_faithful state_engine) (tables_by_value state_engine)
by_value_tables = record { code_of = λ code. code; makes = λ h. h }

pub states_isolated_with_tables : IsolatedWithTables (tables_by_value state_engine) state_engine
states_isolated_with_tables = isolated_with_tables state_lawful (by_value_faithful state_engine) by_value_tables

pub states_isolated_with_tables_from_empty : IsolatedWithTablesFromEmpty (tables_by_value state_engine) state_engine
states_isolated_with_tables_from_empty = isolated_with_tables_from_empty state_lawful (by_value_faithful state_engine) by_value_tables

pub states_isolated_many_with_tables : IsolatedManyWithTables (tables_by_value state_engine) state_engine
states_isolated_many_with_tables = isolated_many_with_tables state_lawful (by_value_faithful state_engine) by_value_tables

-- ── The contract can be met ──

-- A table on a well-formed state of the definition.
record SomeTable (m : Model) (calls : List Call) (cells : List Answer) : Type 0 where
  after : Model
  given : List Answer
  code : Code
  made : TableMade model_engine (λ c. c) (λ x. x) (λ code. code) m calls cells after given code

some_table : (m : Model) → WellFormed m → (calls : List Call) (cells : List Answer) → SomeTable m calls cells
some_table m w calls cells = go (table_outside (length calls) (length cells)) refl
  where
    go : (outside : Bool) → table_outside (length calls) (length cells) ≡ outside → SomeTable m calls cells
    go true e = record {
      after = m;
      given = cells;
      code = E_PAR;
      made = record {
        unsound = λ no. absurd (no w);
        outside = λ sound t. record { code_is = refl; state_is = refl; cells_are = refl };
        otherwise = λ sound t. absurd (subst (λ b. T (not b)) e t);
      };
    }
    go false e =
        let r = models_run_as in_table (λ x. x) m w calls in
        record {
          after = r.last;
          given = r.answers ++ drop (length calls) cells;
          code = E_OK;
          made = record {
            unsound = λ no. absurd (no w);
            outside = λ sound t. absurd (subst T e t);
            otherwise = λ sound t. record { code_is = refl; answers = r.answers; run = r.run; cells_are = refl };
          };
        }

pub models_run_with_tables : ModelsRunWithTables
models_run_with_tables m w [] = record { last = m; answers = []; run = no_call }
models_run_with_tables m w (a_call c ∷ entries) =
    let rest = models_run_with_tables (step m c).state (kept_well_formed m c w) entries in
    record { last = rest.last; answers = an_answer (step m c).answer ∷ rest.answers; run = one_call (call_made (model_steps m w c)) rest.run }
models_run_with_tables m w (a_table calls cells ∷ entries) =
    let t = some_table m w calls cells in
    let rest = models_run_with_tables t.after (tables_follow model_engine (λ c. c) (λ x. x) (λ code. code) m calls cells _ _ _ t.made w).sound entries in
    record { last = rest.last; answers = a_code t.code t.given ∷ rest.answers; run = one_call (table_made t.made) rest.run }
