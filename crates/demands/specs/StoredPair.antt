-- For customers: fetch gives the pair that a wait ended with until the task's next wait begins, however calls are made.
use Rattle.std.specs.Prelude.{◌≡◌, not, List, ℕ, T}
use Rattle.std.proofs.Math.Option.{some}
use Rattle.rows.specs.Runs.{Run, no_call, one_call}
use Rattle.model.specs.Codes.{finished_values}
use Rattle.model.specs.Endings.{CodeAndWord, due_to, FetchOf}
use Rattle.model.specs.Engine.{Engine}
use Rattle.demands.specs.Runs.{Interface}
use Rattle.demands.specs.Waiting.{task_in, waits_in, wait_begins_by}

-- No wait of task t begins in the run: none of the task's calls in it is answered "waits".
unfoldable pub NeverBegins : {S C A : Type 0} (F : Interface S C A) {s last : S} {calls : List C} {answers : List A}
    → ℕ → Run F.Steps s calls last answers → Type 0
NeverBegins F t no_call = Unit
NeverBegins F t (one_call {c = c} {answer = answer} h rest) = T (not (wait_begins_by (F.call_of c) (F.values_of answer) t)) × NeverBegins F t rest

-- From the record s on, an accepted fetch of task t gives this pair, after any run in which no wait of the task begins.
abbrev pub FetchGives : {S C A : Type 0} → Engine S → Interface S C A → S → ℕ → CodeAndWord → Type 0
FetchGives {S} {C} {A} E F s t pair =
    (calls : List C) (last : S) (answers : List A) (run : Run F.Steps s calls last answers) → NeverBegins F t run
    → (c : C) → FetchOf t (E.abs last) (F.call_of c) → (after : S) (answer : A) → F.Steps last c after answer
    → F.values_of answer ≡ finished_values pair.code pair.word 0 0

pub record FetchGivesPair {S C A : Type 0} (E : Engine S) (F : Interface S C A) : Type 0 where
  -- "Fetch gives it as code and a": the pair that a defined task has while it doesn't wait.
  pub stored : (s : S) → E.Sound s → (t : ℕ) → T (task_in E s t).defined → T (not (waits_in E s t))
      → FetchGives E F s t (record { code = (task_in E s t).code; word = (task_in E s t).word })
  -- So, after a step in which something was due to the task's wait, that code and word.
  pub due : (s : S) → E.Sound s → (t : ℕ) → T (waits_in E s t)
      → (c : C) (pair : CodeAndWord) → due_to (E.abs s) (F.call_of c) t ≡ some pair
      → (after : S) (answer : A) → F.Steps s c after answer → FetchGives E F after t pair
