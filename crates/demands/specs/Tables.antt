-- Document 02, item 2: tables of calls on records, and demand 3 for lists whose entries are calls and tables.
use Rattle.std.specs.Prelude.{◌≡◌, ℕ, length, drop, ℤ}
use mathlib.Core.List.{List, [], ◌∷◌, ◌++◌, map, flat_map}
use Rattle.lists.specs.Lists.{Each}
use Rattle.model.specs.Rows.{Model, empty_state}
use Rattle.model.specs.Codes.{Values, number}
use Rattle.model.specs.Engine.{Engine}
use Rattle.model.specs.WellFormed.{WellFormed}
use Rattle.model.specs.Tables.{TableMade, table_code, table_step, calls_made}
use Rattle.model.specs.Isolation.{Placed, CallOf, Carrier, Own, Disjoint, Owners, OwnedBy}
use Rattle.model.specs.declared.Answer.{Answer}
use Rattle.model.specs.declared.Call.{Call}
use Rattle.model.specs.declared.Code.{Code}
use Rattle.demands.specs.Runs.{SomeRun, model_engine, Interface, by_value}
use Rattle.demands.specs.Isolated.{Undisturbed, AllUndisturbed, Isolated, IsolatedMany}

-- How tables are made beside single calls: the contract of one table, and what its code is in document 01's numbers.
pub record Tables {S C A : Type 0} (F : Interface S C A) (K : Type 0) : Type 1 where
  pub number_of : K → ℤ
  pub Makes : S → List C → List A → S → List A → K → Type 0

-- ── A table on a sound record is the definition's ──

-- Code, state and every answer cell. The new record is sound, so the calls of a table need one test of the record, not one each.
pub record TableFollows {S C A K : Type 0} (E : Engine S) (call_of : C → Call) (answer_of : Answer → A) (code_of : Code → K) (s : S) (calls : List C)
    (cells : List A) (after : S) (given : List A) (code : K) : Type 0 where
  pub code_is : code ≡ code_of (table_code (length calls) (length cells))
  pub meaning_is : E.abs after ≡ (table_step (E.abs s) (map call_of calls) (length cells)).state
  pub cells_are : given ≡ map answer_of (table_step (E.abs s) (map call_of calls) (length cells)).answer
      ++ drop (length (calls_made (map call_of calls) (length cells))) cells
  pub sound : E.Sound after

abbrev pub TablesFollow : {S : Type 0} → Engine S → {C A K : Type 0} → (C → Call) → (Answer → A) → (Code → K) → Type 0
TablesFollow {S} E {C} {A} {K} call_of answer_of code_of =
    (s : S) (calls : List C) (cells : List A) (after : S) (given : List A) (code : K)
    → TableMade E call_of answer_of code_of s calls cells after given code → E.Sound s
    → TableFollows E call_of answer_of code_of s calls cells after given code

-- ── Lists whose entries are calls and tables ──

-- A call made singly, or a table with its answer cells as they are lent.
pub data Entry (C A : Type 0) : Type 0 where
  a_call : C → Entry C A
  a_table : List C → List A → Entry C A

-- An answer; or a table's code, and what every answer cell then holds.
pub data Given (A K : Type 0) : Type 0 where
  an_answer : A → Given A K
  a_code : K → List A → Given A K

-- The calls that an entry counts as: a table answered E_OK its calls in a row, a refused one none. A record of number 0 in a table is no tick.
abbrev pub calls_in : {C A : Type 0} → (C → Call) → Entry C A → List Call
calls_in call_of (a_call c) = call_of c ∷ []
calls_in call_of (a_table calls cells) = calls_made (map call_of calls) (length cells)

-- In document 01's numbers.
abbrev pub given_values : {A K : Type 0} → (A → Values) → (K → ℤ) → Given A K → Given Values ℤ
given_values values_of number_of (an_answer x) = an_answer (values_of x)
given_values values_of number_of (a_code code cells) = a_code (number_of code) (map values_of cells)

module _ {S C A K : Type 0} {F : Interface S C A} (G : Tables F K) where
  -- The contract of one entry.
  pub data EntrySteps : S → Entry C A → S → Given A K → Type 0 where
    call_made : {s after : S} {c : C} {answer : A} → F.Steps s c after answer → EntrySteps s (a_call c) after (an_answer answer)
    table_made : {s after : S} {calls : List C} {cells given : List A} {code : K}
        → G.Makes s calls cells after given code → EntrySteps s (a_table calls cells) after (a_code code given)

  -- Document 01, "What demand 3 compares", for two carriers. Answers are compared cell by cell.
  pub record EntriesOfTwo (a b : Carrier) (xs ys : List (Entry C A)) : Type 0 where
    pub disjoint : Disjoint a b
    pub calls_of_a : Each (λ e. Each (CallOf (Own a)) (calls_in F.call_of e)) xs
    pub calls_of_b : Each (λ e. Each (CallOf (Own b)) (calls_in F.call_of e)) ys

  abbrev pub IsolatedWithTables : Engine S → Type 0
  IsolatedWithTables E =
      (s : S) → E.Sound s
      → (a b : Carrier) → Placed (Own a) (E.abs s).rows → Placed (Own b) (E.abs s).rows
      → (xs ys : List (Entry C A)) → EntriesOfTwo a b xs ys
      → Undisturbed E EntrySteps (given_values F.values_of G.number_of) s xs ys

  abbrev pub IsolatedWithTablesFromEmpty : Engine S → Type 0
  IsolatedWithTablesFromEmpty E =
      (s : S) → E.Sound s → (counter : ℕ) → E.abs s ≡ empty_state counter
      → (a b : Carrier) (xs ys : List (Entry C A)) → EntriesOfTwo a b xs ys
      → Undisturbed E EntrySteps (given_values F.values_of G.number_of) s xs ys

  -- Any number of carriers. An owner whose entries count as no call need not be placed.
  abbrev pub IsolatedManyWithTables : Engine S → Type 1
  IsolatedManyWithTables E =
      (I : Type 0) (same_owner : Discrete I) (s : S) → E.Sound s
      → (o : Owners I) (lists : I → List (Entry C A))
      → ((i : I) → (flat_map (calls_in F.call_of) (lists i) ≡ [] → ⊥) → Placed (OwnedBy o i) (E.abs s).rows)
      → ((i : I) → Each (λ e. Each (CallOf (OwnedBy o i)) (calls_in F.call_of e)) (lists i))
      → AllUndisturbed same_owner E EntrySteps (given_values F.values_of G.number_of) s lists

  -- Lists without tables are a special case: what is claimed of lists of entries holds of lists of calls, however tables are made.
  abbrev pub WithoutTables : Engine S → Type 0
  WithoutTables E = IsolatedWithTables E → Isolated E F

  abbrev pub ManyWithoutTables : Engine S → Type 1
  ManyWithoutTables E = IsolatedManyWithTables E → IsolatedMany E F

-- Tables by value: calls, answers and codes as they are.
abbrev pub tables_by_value : {S : Type 0} (E : Engine S) → Tables (by_value E) Code
tables_by_value E = record { number_of = number; Makes = TableMade E (λ c. c) (λ x. x) (λ code. code) }

-- The contract of a table can be met: every list of entries runs from every well-formed state of the definition.
abbrev pub ModelsRunWithTables : Type 0
ModelsRunWithTables = (m : Model) → WellFormed m → (entries : List (Entry Call Answer)) → SomeRun (EntrySteps (tables_by_value model_engine)) m entries
