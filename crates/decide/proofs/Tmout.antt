-- The end of a wait from its tmout: by the sign of the tmout.
use Rattle.std.proofs.Common.{◌≡◌, ℕ, ◌+◌, ◌%◌, true, false, T, ℤ, pos, negsuc, nat_abs, refl, ap, ◌∙◌, subst, arith, ltb-true}
use lib.Signed.{lt_z}
use Rattle.model.specs.Sizes.{counter_span}
use Rattle.model.specs.Waits.{end_of}
use Rattle.model.specs.declared.End.TheVariants.{Never, At}

-- A tmout below 0.
pub ends_never : (counter : ℕ) (tmout : ℤ) → lt_z tmout (pos 0) ≡ true → Never ≡ end_of counter tmout
unfolding end_of
ends_never counter (pos n) h = absurd (let z = ltb-true n 0 h in omega arith)
ends_never counter (negsuc n) h = refl

-- With any other the wait ends in the tick after so many.
pub ends_at : (counter tick : ℕ) (tmout : ℤ) → lt_z tmout (pos 0) ≡ false → tick ≡ (counter + (nat_abs tmout + 1)) % counter_span → At tick ≡ end_of counter tmout
unfolding end_of
ends_at counter tick (pos n) h e = let same : counter + (n + 1) ≡ counter + n + 1 = omega arith in ap At (e ∙ ap (λ ticks. ticks % counter_span) same)
ends_at counter tick (negsuc n) h e = absurd (subst T h tt)
