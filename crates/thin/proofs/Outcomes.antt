-- What an entry does, in a claim of one's own: where each case makes it true, the entry's contract does. An entry of some crate is shown so to meet what is asked
-- of it, by what the functions that it calls promise.
use mathlib.Core.List.{List}
use Prim.Native.Nat.{ℕ}
use lib.ListN.{length}
use Rattle.std.proofs.Common.{Option, None, Some, Result, Ok, Err, inl, inr}
use Rattle.thin.specs.Entered.{EnteredJudged}
use Rattle.thin.specs.Turns.{Rest, OneTurn, Begins, ComesTo, EnteredTable}
use Rattle.thin.specs.declared.record.Stepped.{Stepped}
use Rattle.thin.proofs.Turns.{kept, comes_fit}

-- One that judges first. `Claim before handed after answer`.
module _ {T S D J Y N : Type 0} {Reads : T → S → Type 0} {Judges : S → D → J → Type 0} {Says : J → Option N → Type 0} {Applies : S → J → Y → Type 0}
    {Stores : T → Y → J → T → Type 0} {Answers : Y → N → Type 0} (Claim : T → D → T → N → Type 0) {before after : T} {handed : D} {answer : N}
    (changed : (s : S) (j : J) → Reads before s → Judges s handed j → Says j None → (y : Y) → Applies s j y → (t : T) → Stores before y j t → (n : N) → Answers y n → Claim before handed t n)
    (stayed : (s : S) (j : J) → Reads before s → Judges s handed j → (n : N) → Says j (Some n) → Claim before handed before n) where
  pub judged_outcome : EnteredJudged Reads Judges Says Applies Stores Answers before handed after answer → Claim before handed after answer
  judged_outcome e = elim e.entered [
    | inl w ↦ changed e.state e.judgement e.read e.found w.changes w.step w.applied after w.stored answer w.answered
    | inr w ↦ rw w.same (stayed e.state e.judgement e.read e.found answer w.said)
  ]

-- One that walks over two tables. `Fit s`: the walk goes on from s. `One s d s' n`: what a call does. `Claim calls cells after given r`.
module _ {T S D J A N C R : Type 0} {Reads : T → S → Type 0} {Tests : S → ℕ → ℕ → Result C R → Type 0} {Judges : S → D → J → Type 0} {Says : J → Option N → Type 0}
    {Applies : S → J → Stepped S A → Type 0} {Tells : Stepped S A → N → Type 0} {before : T} {calls : List D} {cells : List N}
    (Fit : S → Type 0) (One : S → D → S → N → Type 0)
    (fit : (s : S) (code : C) → Begins Reads Tests before calls cells s code → Fit s)
    (moves : (s : S) (d : D) (j : J) → Fit s → Judges s d j → Says j None → (y : Stepped S A) → Applies s j y → (n : N) → Tells y n → One s d y.state n × Fit y.state)
    (stays : (s : S) (d : D) (j : J) → Fit s → Judges s d j → (n : N) → Says j (Some n) → One s d s n) where
  -- a turn on such a state is what a call does, and leaves such a state
  one_turn : (s : S) (d : D) (s' : S) (n : N) → Fit s → OneTurn Judges Says Applies Tells s d s' n → One s d s' n × Fit s'
  one_turn s d s' n here t = elim t.turned [
    | inl w ↦ rw w.leaves (moves s d t.judgement here t.found w.changes w.step w.applied n w.told)
    | inr w ↦ rw w.same (stays s d t.judgement here t.found n w.said, here)
  ]

  -- what the entry asks of `judge` and `apply` is asked on such states alone
  pub fit_at_each : (s : S) (d : D) → ComesTo Reads Tests before calls cells (OneTurn Judges Says Applies Tells) s d → Fit s
  fit_at_each = comes_fit (OneTurn Judges Says Applies Tells) Fit fit (λ s d s' n here t. (one_turn s d s' n here t).1)

  module _ {Stores : T → S → T → Type 0} (Claim : T → List N → Result C R → Type 0) {after : T} {given : List N} {r : Result C R}
      (refused : (s : S) (code : R) → Reads before s → Tests s (length calls) (length cells) (Err code) → Claim before cells (Err code))
      (made : (s : S) (code : C) → Reads before s → Tests s (length calls) (length cells) (Ok code) → (last : S) (ys : List N) → Rest One 0 s calls cells last ys
      → (u : T) → Stores before last u → Claim u ys (Ok code)) where
    pub table_outcome : EnteredTable Reads Tests before calls cells (OneTurn Judges Says Applies Tells) Stores after given r → Claim after given r
    table_outcome e = elim e.entered [
      | inl w ↦ rw w.answers (made e.first w.code e.read w.test w.last given
          (kept (OneTurn Judges Says Applies Tells) One Fit one_turn (fit e.first w.code (record { read = e.read; test = w.test })) w.turns).0
          after w.stored)
      | inr w ↦ rw w.answers (rw w.same (rw w.cells_same (refused e.first w.code e.read w.test)))
    ]
