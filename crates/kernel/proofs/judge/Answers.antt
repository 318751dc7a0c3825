-- `judge` goes by the number, then by what is seen: nothing of a record that isn't sound, and what is decided of one that is.
use mathlib.Core.Path.{refl}
use native.Mathlib.Omega.{arith}
use Rattle.kernel.proofs.Outcomes.{refusal_appliable, sound_judged}
use Rattle.kernel.proofs.judge.Goals as goal

pub returns-then-call-gt-CALL_LIMIT : goal.returns-then-call-gt-CALL_LIMIT
returns-then-call-gt-CALL_LIMIT c = record { unknown = λ n. refl; unsound = λ l f. absurd (let h = c.if-call-gt-CALL_LIMIT.true in omega (arith, h, l)); sound = λ l S. absurd (let h = c.if-call-gt-CALL_LIMIT.true in omega (arith, h, l)); appliable = refusal_appliable refl }

pub returns-in_default : goal.returns-in_default
returns-in_default c = record { unknown = λ n. absurd (let h = c.if-call-gt-CALL_LIMIT.false in omega (arith, h, n)); unsound = λ l f. refl; sound = λ l S. absurd (c.in_default.ensures S); appliable = refusal_appliable refl }

pub returns : goal.returns
returns c = sound_judged c.in-Some.ensures.0 (c.decide.ensures _ c.in-Some.ensures.1)
