-- A program's run, step by step: by computing.
use mathlib.Core.Path.{◌≡◌, refl}
use mathlib.Core.Bool.{Bool, true, false, not}
use mathlib.Core.List.{List, [], ◌∷◌, map}
use lib.Dec.{T}
use Rattle.rows.specs.Program.{Program, return, get, put, provided◌then◌else◌, get_each, run_first, Rows, update, run}

module _ {Key : Type 0} {Row : Key → Type 0} {A : Type 0} (same_key : Discrete Key) where
  pub run_return : (a : A) (m : Rows Row) → run {Row = Row} same_key (return a) m ≡ record { state = m; answer = a }
  unfolding run
  run_return a m = refl

  pub run_yes : (b : Bool) (p q : Program Key Row A) (m : Rows Row) → T b → run same_key (provided b then p else q) m ≡ run same_key p m
  unfolding run
  run_yes true p q m t = refl
  run_yes false p q m t = absurd t

  pub run_no : (b : Bool) (p q : Program Key Row A) (m : Rows Row) → T (not b) → run same_key (provided b then p else q) m ≡ run same_key q m
  unfolding run
  run_no true p q m t = absurd t
  run_no false p q m t = refl

  pub run_get_each : {N X : Type 0} (key : N → Key) (read : (n : N) → Row (key n) → X) (l : List N) (f : List X → Program Key Row A) (m : Rows Row)
      → run same_key (get_each key read l f) m ≡ run same_key (f (map (λ n. read n (m (key n))) l)) m
  unfolding run get_each
  run_get_each key read [] f m = refl
  run_get_each key read (n ∷ ns) f m = run_get_each key read ns (λ others. f (read n (m (key n)) ∷ others)) m

  -- The second program goes on from what the first leaves, with its answer.
  pub run_run_first : {X : Type 0} (p : Program Key Row X) (f : X → Program Key Row A) (m : Rows Row)
      → run same_key (run_first p f) m ≡ run same_key (f (run same_key p m).answer) (run same_key p m).state
  unfolding run run_first
  run_run_first (return x) f m = refl
  run_run_first (get k g) f m = run_run_first (g (m k)) f m
  run_run_first (put k v p) f m = run_run_first p f (update same_key k v m)
  run_run_first (provided true then p else q) f m = run_run_first p f m
  run_run_first (provided false then p else q) f m = run_run_first q f m
