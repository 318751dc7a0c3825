-- The tick, a call that the error table refuses, and a call that it lets pass: by the definition's step.
use Rattle.std.proofs.Common.{◌≡◌, T, eqb, ap, T_not, eq-eqb, Err}
use mir.Facts.{no_eqb}
use Rattle.rows.specs.Program.{run}
use Rattle.errors.specs.Seen.{SeenFor, refusal_of}
use Rattle.errors.specs.declared.Seen.{Seen}
use Rattle.errors.proofs.Laws.{no_refusal, accepted, not_accepted}
use Rattle.model.specs.Rows.{Model}
use Rattle.model.specs.Calls.{view_of}
use Rattle.model.specs.Errors.{refusal}
use Rattle.model.specs.declared.Call.{Call}
use Rattle.model.specs.declared.Code.{Code}
use Rattle.model.proofs.Refusals.{refusals}
use Rattle.model.proofs.Step.{step_tick}
use Rattle.decide.specs.Decisions.{ran, Taken, Decided}
use Rattle.decide.specs.declared.Decision.TheVariants.{Refuse, Tick}

module _ {m : Model} (c : Call) {y : Seen} (s : SeenFor m c y) where
  pub ticks : c.number ≡ 0 → Decided m c Tick
  ticks z =
      let is_tick : T (eqb c.number 0) = rw (eq-eqb c.number 0 z) tt in
      record { steps = step_tick m c is_tick; ready = tt; refuses = λ t r. absurd (T_not (eqb c.number 0) t is_tick) }

  pub refuses : (code : Code) → Err code ≡ refusal_of (refusal (view_of m c) c) → (c.number ≡ 0 → ⊥) → Decided m c (Refuse code)
  unfolding ran run
  refuses code e some =
      let with_code = not_accepted (view_of m c) c code e in
      let by_row = (refusals m c (no_eqb some)).by_row with_code.1 in
      record { steps = rw with_code.0 by_row; ready = tt; refuses = λ t r. ap Refuse with_code.0 }

  pub is_taken : no_refusal ≡ refusal_of (refusal (view_of m c) c) → Taken m c y
  is_taken e = record { seen = s; accepted = accepted (view_of m c) c e }
