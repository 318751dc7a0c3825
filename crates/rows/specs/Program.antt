-- Programs over rows. A state is a table of rows, each found by its key; a program reads rows, writes rows, branches on tests and returns an answer.
use Rattle.std.proofs.Math.Path.{subst⁻¹}
use Rattle.std.specs.Prelude.{Bool, true, false, List, [], ◌∷◌}

infix 5 provided◌then◌else◌
pub data Program (Key : Type 0) (Row : Key → Type 0) (A : Type 0) : Type 0 where
  return : A → Program Key Row A
  get : (k : Key) → (Row k → Program Key Row A) → Program Key Row A
  put : (k : Key) → Row k → Program Key Row A → Program Key Row A
  provided◌then◌else◌ : Bool → Program Key Row A → Program Key Row A → Program Key Row A

-- `do` blocks: `x ← get k` hands the row on to the lines below it, and `put k v` goes before them.
module _ {Key : Type 0} {Row : Key → Type 0} {A : Type 0} where
  abbrev pub ◌>>=◌ : {X : Type 0} → ((X → Program Key Row A) → Program Key Row A) → (X → Program Key Row A) → Program Key Row A
  ◌>>=◌ action rest = action rest

  abbrev pub ◌>>◌ : (Program Key Row A → Program Key Row A) → Program Key Row A → Program Key Row A
  ◌>>◌ action rest = action rest

-- What is read off each of these rows, in order.
unfoldable pub get_each : {Key : Type 0} {Row : Key → Type 0} {N X A : Type 0} (key : N → Key) → ((n : N) → Row (key n) → X)
    → List N → (List X → Program Key Row A) → Program Key Row A
get_each key read [] rest = rest []
get_each key read (n ∷ ns) rest = do
  row ← get (key n)
  others ← get_each key read ns
  rest (read n row ∷ others)

-- One program, and then another with its answer: `x ← run_first p`.
unfoldable pub run_first : {Key : Type 0} {Row : Key → Type 0} {X A : Type 0} → Program Key Row X → (X → Program Key Row A) → Program Key Row A
run_first (return x) rest = rest x
run_first (get k f) rest = get k (λ row. run_first (f row) rest)
run_first (put k v p) rest = put k v (run_first p rest)
run_first (provided b then p else q) rest = provided b then run_first p rest else run_first q rest

-- What a step hands back.
pub record Result (S A : Type 0) : Type 0 where
  pub state : S
  pub answer : A

-- A table of rows.
abbrev pub Rows : {Key : Type 0} → (Key → Type 0) → Type 0
Rows {Key} Row = (k : Key) → Row k

module _ {Key : Type 0} {Row : Key → Type 0} (same_key : Discrete Key) where
  -- The table with row k changed to v.
  unfoldable pub update : (k : Key) → Row k → Rows Row → Rows Row
  update k v m j = elim (same_key j k) [ yes e ↦ subst⁻¹ Row e v | no n ↦ m j ]

  unfoldable pub run : {A : Type 0} → Program Key Row A → Rows Row → Result (Rows Row) A
  run (return a) m = record { state = m; answer = a }
  run (get k f) m = run (f (m k)) m
  run (put k v p) m = run p (update k v m)
  run (provided true then p else q) m = run p m
  run (provided false then p else q) m = run q m

-- An environment, which calls read and none writes, and the rows.
pub record Configuration (E : Type 0) {Key : Type 0} (Row : Key → Type 0) : Type 0 where
  pub environment : E
  pub rows : Rows Row

-- A call as a step: its program in that environment, run on the rows.
module _ {Key E R A : Type 0} {Row : Key → Type 0} (same_key : Discrete Key) (program : E → R → Program Key Row A) where
  unfoldable pub step_of : Configuration E Row → R → Result (Configuration E Row) A
  step_of s r =
      let o = run same_key (program s.environment r) s.rows in
      record { state = record { environment = s.environment; rows = o.state }; answer = o.answer }
