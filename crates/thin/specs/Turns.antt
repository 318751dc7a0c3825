-- The turns of a walk over two lent tables, one of calls and one of answers: for any types of state, call and answer.
use Rattle.std.specs.Prelude.{◌≡◌, ◌⊎◌, ℕ, suc, Option, None, Some, Result, Ok, Err, List, [], ◌∷◌, ◌++◌, length, slice_set}
use Rattle.thin.specs.declared.record.Stepped.{Stepped}

-- `One s d s' n`: a call d on the state s leaves s' and answers n. `Rest One i s ds ys s' ys'`: the calls ds, the first one's answer going to cell i, make s and
-- the cells ys into s' and ys'.
pub data Rest {S D N : Type 0} (One : S → D → S → N → Type 0) : ℕ → S → List D → List N → S → List N → Type 0 where
  over : {i : ℕ} {s : S} {ys : List N} → Rest One i s [] ys s ys
  turn : {i : ℕ} {s s' s'' : S} {d : D} {ds : List D} {n : N} {ys zs : List N} → One s d s' n → Rest One (suc i) s' ds (slice_set ys i n) s'' zs → Rest One i s (d ∷ ds) ys s'' zs

-- What one call comes to, by what the functions that a turn calls promise: it is judged; where that changes something, nothing is said of the judgement, it is
-- carried out, and what is told of the step is answered; else the state stays the very state, and what is said of the judgement is the answer.
module _ {S D J A N : Type 0} (Judges : S → D → J → Type 0) (Says : J → Option N → Type 0) (Applies : S → J → Stepped S A → Type 0) (Tells : Stepped S A → N → Type 0) where
  -- where something changes
  pub record CarriedOut (state : S) (judgement : J) (next : S) (answer : N) : Type 0 where
    pub changes : Says judgement None
    pub step : Stepped S A
    pub applied : Applies state judgement step
    pub leaves : next ≡ step.state
    pub told : Tells step answer

  -- where nothing does
  pub record LeftAlone (state : S) (judgement : J) (next : S) (answer : N) : Type 0 where
    pub same : next ≡ state
    pub said : Says judgement (Some answer)

  pub record OneTurn (state : S) (call : D) (next : S) (answer : N) : Type 0 where
    pub judgement : J
    pub found : Judges state call judgement
    pub turned : (CarriedOut state judgement next answer) ⊎ (LeftAlone state judgement next answer)

-- A walk over the tables `calls` and `cells`, from the lent record `before` on. Its first state is read of the record, and tested with the lengths of the tables.
module _ {T S D N C R : Type 0} (Reads : T → S → Type 0) (Tests : S → ℕ → ℕ → Result C R → Type 0) (before : T) (calls : List D) (cells : List N) where
  -- it begins with this state: the test lets it run, with this code
  pub record Begins (first : S) (code : C) : Type 0 where
    pub read : Reads before first
    pub test : Tests first (length calls) (length cells) (Ok code)

  module _ (One : S → D → S → N → Type 0) where
    -- it comes to `call` with this state
    pub record ComesTo (state : S) (call : D) : Type 0 where
      pub first : S
      pub code : C
      pub begins : Begins first code
      pub done : List D
      pub left : List D
      pub in_order : calls ≡ done ++ (call ∷ left)
      pub given : List N
      pub turns : Rest One 0 first done cells state given

    module _ (Stores : T → S → T → Type 0) where
      -- it runs: every call has its turn, the answers go to the first cells, one each, and the last state is stored
      pub record Walked (first : S) (after : T) (given : List N) (r : Result C R) : Type 0 where
        pub code : C
        pub test : Tests first (length calls) (length cells) (Ok code)
        pub answers : r ≡ Ok code
        pub last : S
        pub turns : Rest One 0 first calls cells last given
        pub stored : Stores before last after

      -- the test refuses it: nothing is written
      pub record Refused (first : S) (after : T) (given : List N) (r : Result C R) : Type 0 where
        pub code : R
        pub test : Tests first (length calls) (length cells) (Err code)
        pub answers : r ≡ Err code
        pub same : after ≡ before
        pub cells_same : given ≡ cells

      -- what the entry leaves in what was lent, and what it answers
      pub record EnteredTable (after : T) (given : List N) (r : Result C R) : Type 0 where
        pub first : S
        pub read : Reads before first
        pub entered : (Walked first after given r) ⊎ (Refused first after given r)
