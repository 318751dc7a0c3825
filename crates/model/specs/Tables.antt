-- Document 02, item 2: a table of calls in one go.
use Rattle.std.specs.Prelude.{◌≡◌, Bool, not, cond, ◌||◌, List, [], ◌++◌, map, ℕ, suc, T, ltb, length, drop}
use Rattle.rows.specs.Runs.{Run, in_a_row}
use Rattle.rows.specs.Program.{Result}
use Rattle.model.specs.Sizes.{call_limit, table_limit}
use Rattle.model.specs.Rows.{Model}
use Rattle.model.specs.Codes.{Code, E_OK, E_PAR, E_SYS}
use Rattle.model.specs.Calls.{Call, is_tick}
use Rattle.model.specs.Errors.{unknown, unknown_in_table}
use Rattle.model.specs.Step.{step}
use Rattle.model.specs.Engine.{Engine, SteppedAs}
use Rattle.model.specs.declared.Answer.{Answer}

-- ── What a table asks ──

-- A record whose number is 0 is no tick here: it is read as a call of unknown number, which step 0 refuses.
unfoldable pub in_table : Call → Call
in_table c = record {
  number = cond (is_tick c) (suc call_limit) c.number;
  caller = c.caller;
  locked = c.locked;
  disabled = c.disabled;
  object = c.object;
  value = c.value;
  tmout = c.tmout;
  attribute = c.attribute;
}

-- So no record of a table is the tick, and those that step 0 refuses are the ones of number 0 or unknown.
pub record NoTickInTable (c : Call) : Type 0 where
  pub no_tick : T (not (is_tick (in_table c)))
  pub unknown_is : unknown (in_table c) ≡ unknown_in_table c

abbrev pub NoTicksInTables : Type 0
NoTicksInTables = (c : Call) → NoTickInTable c

-- More than 64 records, or an answer table shorter than the calls.
unfoldable pub table_outside : ℕ → ℕ → Bool
table_outside calls cells = ltb table_limit calls || ltb cells calls

-- The code of a table of so many calls with so many answer cells, on a sound state.
unfoldable pub table_code : ℕ → ℕ → Code
table_code calls cells = cond (table_outside calls cells) E_PAR E_OK

-- The calls that it counts as: all of them in a row, or none where it is refused.
unfoldable pub calls_made : List Call → ℕ → List Call
calls_made calls cells = cond (table_outside (length calls) cells) [] (map in_table calls)

-- What it does to a state: the state that its calls leave, made singly, first to last; their answers go to the first cells.
unfoldable pub table_step : Model → List Call → ℕ → Result Model (List Answer)
table_step m calls cells = in_a_row step m (calls_made calls cells)

-- ── What a table on a record promises, whatever kind of record it is ──

-- `calls` and `cells` are the two tables as they are lent; the record was found as s and left as `after`, the answer table left as `given`, and the code given.
-- As calls may be written otherwise, so may codes: `code_of` says how.
module _ {S C A K : Type 0} (E : Engine S) (call_of : C → Call) (answer_of : Answer → A) (code_of : Code → K) (s : S) (calls : List C) (cells : List A)
    (after : S) (given : List A) (code : K) where
  -- Nothing is done, and the answer table keeps its contents.
  pub record NothingDone (refusal : Code) : Type 0 where
    pub code_is : code ≡ code_of refusal
    pub state_is : after ≡ s
    pub cells_are : given ≡ cells

  -- State and answers are those of the calls made singly, first to last, refused ones too. Cells past the last call keep theirs.
  pub record AllMade : Type 0 where
    pub code_is : code ≡ code_of E_OK
    pub answers : List A
    pub run : Run (SteppedAs E (λ c. in_table (call_of c)) answer_of) s calls after answers
    pub cells_are : given ≡ answers ++ drop (length calls) cells

  -- Any record, sound or not, and any two tables.
  pub record TableMade : Type 0 where
    pub unsound : (E.Sound s → ⊥) → NothingDone E_SYS
    pub outside : E.Sound s → T (table_outside (length calls) (length cells)) → NothingDone E_PAR
    -- Every other table, an empty one too.
    pub otherwise : E.Sound s → T (not (table_outside (length calls) (length cells))) → AllMade
