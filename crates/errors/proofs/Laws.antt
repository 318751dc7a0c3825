-- What the tests of a suspension see; and a call is refused exactly where its refusal isn't E_OK, since no row of the table has that code.
use mathlib.Core.Path.{◌≡◌, refl, ap, subst}
use mathlib.Core.Bool.{Bool, true, false, not, ◌&&◌, ◌||◌, cond}
use mathlib.Core.List.{List}
use lib.Dec.{T, eqb}
use Rattle.std.specs.Prelude.{⊤, Result, Ok as Accepted, Err as Refused, is_ok as is_accepted}
use mir.Facts.{T_not-not}
use Rattle.lists.specs.Lists.{Each, none, both, every, one_of}
use Rattle.lists.proofs.Each.{each_of_every}
use Rattle.model.specs.Calls.{View}
use Rattle.model.specs.declared.Call.{Call}
use Rattle.model.specs.declared.Code.{Code}
use Rattle.model.specs.Errors.{ErrorRow, rows_to_step_4, rows_from_step_5, error_table, some_applies, first_that_applies, refused, refusal}
use Rattle.model.proofs.Tests.{or_left, or_right, is_false}
use Rattle.errors.specs.declared.Seen.{Seen}
use Rattle.errors.specs.Seen.{Shows, is_ok, refusal_of}

-- ── What is seen of a named task's suspension serves the two rows that ask for it ──

seen_where : (b : Bool) {x y : Bool} → (T b → x ≡ y) → (b && x) ≡ (b && y)
seen_where true h = h tt
seen_where false h = refl

module _ (c : Call) {v : View} {y : Seen} (shows : Shows v c y) where
  pub seen_by_suspend : (eqb c.number 20 && y.task.suspended) ≡ (eqb c.number 20 && v.suspended)
  unfolding one_of
  seen_by_suspend = seen_where (eqb c.number 20) (λ t. shows.suspended (or_left (eqb c.number 20) _ t))

  pub seen_by_resume : (eqb c.number 21 && not y.task.suspended) ≡ (eqb c.number 21 && not v.suspended)
  unfolding one_of
  seen_by_resume = seen_where (eqb c.number 21) (λ t. ap not (shows.suspended (or_right (eqb c.number 20) _ (or_left (eqb c.number 21) _ t))))

-- ── E_OK where no row applies ──

-- The row has an error's code.
abbrev Refuses : ErrorRow → Type 0
Refuses row = T (not (is_ok row.code))

table_refuses : (v : View) (c : Call) → Each Refuses (error_table v c)
unfolding error_table rows_to_step_4 rows_from_step_5 every
table_refuses v c = each_of_every (λ row. not (is_ok row.code)) (error_table v c) tt

-- With one row more ahead.
row_more : (applies : Bool) (code rest : Code) (other : Bool) → T (not (is_ok code)) → is_ok rest ≡ not other → is_ok (cond applies code rest) ≡ not (applies || other)
row_more true code rest other refuses e = is_false (is_ok code) refuses
row_more false code rest other refuses e = e

-- The rows' first code is E_OK exactly where none applies.
none_applies : {rows : List ErrorRow} → Each Refuses rows → is_ok (first_that_applies rows) ≡ not (some_applies rows)
unfolding some_applies first_that_applies
none_applies none = refl
none_applies (both {x = x} {xs = xs} refuses rest) = row_more x.applies x.code (first_that_applies xs) (some_applies xs) refuses (none_applies rest)

ok_exactly : (v : View) (c : Call) → is_ok (refusal v c) ≡ not (refused v c)
unfolding refusal refused
ok_exactly v c = none_applies (table_refuses v c)

-- What the code answers: no refusal where the code of the table is E_OK, else a refusal with this code.
abbrev answer : Bool → Code → Result ⊤ Code
answer ok code = cond ok (Accepted tt) (Refused code)

abbrev pub no_refusal : Result ⊤ Code
no_refusal = Accepted tt

abbrev code_or : Code → Result ⊤ Code → Code
code_or other (Accepted x) = other
code_or other (Refused code) = code

none_by : (ok : Bool) (code : Code) → no_refusal ≡ answer ok code → T ok
none_by true code e = tt
none_by false code e = subst (λ (x : Result ⊤ Code). T (is_accepted x)) e tt

with_code : (ok : Bool) (code found : Code) → Refused found ≡ answer ok code → (found ≡ code) × T (not ok)
with_code true code found e = absurd (subst (λ (x : Result ⊤ Code). T (not (is_accepted x))) e tt)
with_code false code found e = (ap (code_or found) e, tt)

pub accepted : (v : View) (c : Call) → no_refusal ≡ refusal_of (refusal v c) → T (not (refused v c))
accepted v c e = let ok = none_by (is_ok (refusal v c)) (refusal v c) e in rw (ok_exactly v c) at ok

pub not_accepted : (v : View) (c : Call) (code : Code) → Refused code ≡ refusal_of (refusal v c) → (code ≡ refusal v c) × T (refused v c)
not_accepted v c code e =
    let by_code = with_code (is_ok (refusal v c)) (refusal v c) code e in
    (by_code.0, T_not-not (refused v c) (rw (ok_exactly v c) at by_code.1))
