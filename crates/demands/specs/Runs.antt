-- Document 01, "What demand 3 compares": runs (`Run`, crate rows). A call of number 0 is the tick.
use Rattle.std.specs.Prelude.{◌≡◌, List, [], ◌∷◌}
use Rattle.lists.specs.Lists.{Each}
use Rattle.rows.specs.Runs.{Run}
use Rattle.model.specs.Rows.{Model}
use Rattle.model.specs.Codes.{Values, values}
use Rattle.model.specs.Engine.{Engine, Stepped, SteppedAs}
use Rattle.model.specs.WellFormed.{WellFormed}
use Rattle.model.specs.declared.Answer.{Answer}
use Rattle.model.specs.declared.Call.{Call}

-- A run where each call stands beside its owner, and so each answer.
pub data RunOfTurns {I S C A : Type 0} (Steps : S → C → S → A → Type 0) : S → List (I × C) → S → List (I × A) → Type 0 where
  no_turn : {s : S} → RunOfTurns Steps s [] s []
  one_turn : {s after last : S} {i : I} {c : C} {answer : A} {turns : List (I × C)} {answers : List (I × A)}
      → Steps s c after answer → RunOfTurns Steps after turns last answers → RunOfTurns Steps s ((i, c) ∷ turns) last ((i, answer) ∷ answers)

-- Runs of these calls from this record, and of these turns.
pub record SomeRun {S C A : Type 0} (Steps : S → C → S → A → Type 0) (s : S) (calls : List C) : Type 0 where
  pub last : S
  pub answers : List A
  pub run : Run Steps s calls last answers

pub record SomeRunOfTurns {I S C A : Type 0} (Steps : S → C → S → A → Type 0) (s : S) (turns : List (I × C)) : Type 0 where
  pub last : S
  pub answers : List (I × A)
  pub run : RunOfTurns Steps s turns last answers

-- A step that keeps the contract. `Record` and `Sent` say which records and calls it is made for, as those that fit the fields of Rattle's structs; what it
-- hands back is such a record again.
pub record SomeStep {S C A : Type 0} (Steps : S → C → S → A → Type 0) : Type 1 where
  pub Record : S → Type 0
  pub Sent : C → Type 0
  pub step : S → C → S × A
  pub keeps : (s : S) (c : C) → Record s → Sent c → Steps s c (step s c).0 (step s c).1 × Record (step s c).0

-- Wherever a step keeps the contract, as the code's does, it runs every list of calls, and every list of turns.
pub record ListsRun {S C A : Type 0} (Steps : S → C → S → A → Type 0) : Type 1 where
  pub calls : (k : SomeStep Steps) (s : S) → k.Record s → (calls : List C) → Each k.Sent calls → SomeRun Steps s calls
  pub turns : (k : SomeStep Steps) (I : Type 0) (s : S) → k.Record s → (turns : List (I × C)) → Each (λ turn. k.Sent turn.1) turns
      → SomeRunOfTurns Steps s turns

-- The definition is an engine too: its records are models, sound where they are well-formed. Its step keeps the contract, so every list of calls runs from
-- every well-formed state, also with calls and answers written otherwise: the contract asks for nothing that can't be had.
abbrev pub model_engine : Engine Model
model_engine = record { abs = λ m. m; Readable = λ m. Unit; Sound = WellFormed; Same = λ m n. m ≡ n }

abbrev pub ModelsRun : Type 0
ModelsRun = (m : Model) → WellFormed m → (calls : List Call) → SomeRun (Stepped model_engine) m calls

abbrev pub ModelsRunAs : {C A : Type 0} → (C → Call) → (Answer → A) → Type 0
ModelsRunAs {C} call_of answer_of = (m : Model) → WellFormed m → (calls : List C) → SomeRun (SteppedAs model_engine call_of answer_of) m calls

-- ── How calls are made ──

-- A way to make calls on records S: as which call each one is read, what an answer is in document 01's numbers, and the contract of one call.
pub record Interface (S C A : Type 0) : Type 1 where
  pub call_of : C → Call
  pub values_of : A → Values
  pub Steps : S → C → S → A → Type 0

-- The step itself, which takes the record and hands it back.
abbrev pub by_value : {S : Type 0} → Engine S → Interface S Call Answer
by_value E = record { call_of = λ c. c; values_of = values; Steps = Stepped E }
