-- Calls in a row, and others after them: by induction on the first. A run whose steps follow a defined step follows the defined run: by induction on the run.
use mathlib.Core.Path.{◌≡◌, refl, ◌∙◌, ap, ap₂}
use mathlib.Core.List.{List, [], ◌∷◌, ◌++◌}
use Rattle.rows.specs.Program.{Result}
use Rattle.rows.specs.Runs.{end, answers, Run, no_call, one_call}

module _ {S R A : Type 0} (step : S → R → Result S A) where
  pub end_append : (s : S) (xs ys : List R) → end step s (xs ++ ys) ≡ end step (end step s xs) ys
  unfolding end
  end_append s [] ys = refl
  end_append s (x ∷ xs) ys = end_append (step s x).state xs ys

  pub answers_append : (s : S) (xs ys : List R) → answers step s (xs ++ ys) ≡ answers step s xs ++ answers step (end step s xs) ys
  unfolding answers end
  answers_append s [] ys = refl
  answers_append s (x ∷ xs) ys = ap (λ l. (step s x).answer ∷ l) (answers_append (step s x).state xs ys)

-- A record s means the state `means s`. A step that finds a sound record leaves one, which means what `defined` leaves, and gives what `defined` answers.
module _ {S M X Y : Type 0} {Steps : S → X → S → Y → Type 0} (means : S → M) (Sound : S → Type 0) (defined : M → X → Result M Y)
    (each_step : (s after : S) (x : X) (given : Y) → Sound s → Steps s x after given → (means after ≡ (defined (means s) x).state) × (given ≡ (defined (means s) x).answer) × Sound after) where
  pub runs_follow : {s last : S} {xs : List X} {given : List Y} → Sound s → Run Steps s xs last given
      → (means last ≡ end defined (means s) xs) × (given ≡ answers defined (means s) xs) × Sound last
  unfolding end answers
  runs_follow sound no_call = (refl, refl, sound)
  runs_follow sound (one_call {calls = xs} h rest) =
      let (meaning, answer, kept) = each_step _ _ _ _ sound h in
      let (end_is, answers_are, last) = runs_follow kept rest in
      (end_is ∙ ap (λ m. end defined m xs) meaning, ap₂ (λ y l. y ∷ l) answer (answers_are ∙ ap (λ m. answers defined m xs) meaning), last)
