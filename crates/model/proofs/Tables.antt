-- No record of a table is the tick: by cases of its number.
use mathlib.Core.Path.{◌≡◌, refl}
use mathlib.Core.Bool.{not, cond, ◌||◌}
use Prim.Native.Nat.{ℕ, zero, suc}
use lib.Dec.{T, eqb, ltb, eqb-suc-zero}
use Rattle.model.specs.Sizes.{call_limit}
use Rattle.model.specs.Errors.{unknown, unknown_in_table}
use Rattle.model.specs.Tables.{in_table, NoTicksInTables}

pub no_ticks_in_tables : NoTicksInTables
unfolding in_table unknown unknown_in_table
no_ticks_in_tables c = let h = go c.number in record { no_tick = h.0; unknown_is = h.1 }
  where
    go : (n : ℕ) → T (not (eqb (cond (eqb n 0) (suc call_limit) n) 0)) × (ltb call_limit (cond (eqb n 0) (suc call_limit) n) ≡ (eqb n 0 || ltb call_limit n))
    go zero = (tt, refl)
    go (suc n) = simp eqb-suc-zero (tt, refl)
