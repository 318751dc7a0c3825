-- What an entry that does not always store comes to, by what the functions that it calls promise.
use Rattle.std.specs.Prelude.{◌≡◌, ◌⊎◌, Option, None, Some, Result, Ok, Err}
use Rattle.thin.specs.declared.record.Stepped.{Stepped}

-- A block of bytes is handed on with the record `before`: where it is taken, the record becomes the state that was made of it; else it stays the very record.
-- `Takes t`: t may be what is made of the two.
module _ {T R : Type 0} (Takes : Result (Stepped T R) R → Type 0) where
  abbrev pub EnteredBlock : T → T → R → Type 0
  EnteredBlock before after code = (Takes (Ok (record { state = after; answer = code }))) ⊎ (Takes (Err code) × (after ≡ before))

-- What is handed over is judged on the state that is read of the record `before`: where that changes something, nothing is said of the judgement, it is carried out,
-- the record that follows is stored, and the step is answered from; else the record stays the very record, and what is said of the judgement is the answer.
module _ {T S D J Y N : Type 0} (Reads : T → S → Type 0) (Judges : S → D → J → Type 0) (Says : J → Option N → Type 0) (Applies : S → J → Y → Type 0)
    (Stores : T → Y → J → T → Type 0) (Answers : Y → N → Type 0) (before : T) where
  -- where something changes
  pub record Changed (state : S) (judgement : J) (after : T) (answer : N) : Type 0 where
    pub changes : Says judgement None
    pub step : Y
    pub applied : Applies state judgement step
    pub stored : Stores before step judgement after
    pub answered : Answers step answer

  -- where nothing does
  pub record Stayed (judgement : J) (after : T) (answer : N) : Type 0 where
    pub same : after ≡ before
    pub said : Says judgement (Some answer)

  pub record EnteredJudged (handed : D) (after : T) (answer : N) : Type 0 where
    pub state : S
    pub judgement : J
    pub read : Reads before state
    pub found : Judges state handed judgement
    pub entered : (Changed state judgement after answer) ⊎ (Stayed judgement after answer)
