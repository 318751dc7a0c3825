-- Document 02, item 2: when a table is refused, and with which code.
use Rattle.std.specs.Prelude.{◌≡◌, not, ℕ, T, Result, Ok, Err, is_ok}
use Rattle.lists.specs.Tests.{Whether}
use Rattle.model.specs.Tables.{table_outside}
use Rattle.model.specs.declared.Code.{Code}
use Rattle.model.specs.declared.Code.TheVariants.{Par as E_PAR, Sys as E_SYS}
use Rattle.record.specs.declared.State.{State}
use Rattle.record.specs.Sound.{Sound}

-- Refused with a code, or its calls are made: in the last of the three cases.
pub record Tested (s : State) (calls cells : ℕ) (r : Result (Unit {0}) Code) : Type 0 where
  pub unsound : (Sound s → ⊥) → r ≡ Err E_SYS
  pub outside : Sound s → T (table_outside calls cells) → r ≡ Err E_PAR
  pub otherwise : Sound s → T (not (table_outside calls cells)) → r ≡ Ok tt
  pub runs_is : Whether (Sound s × T (not (table_outside calls cells))) (is_ok r)
