-- A number read as a byte is known where it was, and unknown where it was.
use mathlib.Core.Path.{◌≡◌, subst, sym}
use Prim.Native.Nat.{ℕ, ◌<◌, ◌≤◌}
use native.Mathlib.Omega.{arith}
use native.Mathlib.Decide.{dec_lt}
use borrow.Author.Tests.{lt-ltb, le-ltb}
use Rattle.host_calls.specs.Calls.{byte}

byte_small : (n : ℕ) → n < 255 → byte n ≡ n
unfolding byte
byte_small n h = simp (lt-ltb n 255 h)

byte_large : (n : ℕ) → 255 ≤ n → byte n ≡ 255
unfolding byte
byte_large n h = simp (le-ltb n 255 h)

pub byte_known : {limit : ℕ} → limit < 255 → (n : ℕ) → n ≤ limit → byte n ≡ n
byte_known below n h = byte_small n (omega arith)

pub byte_unknown : {limit : ℕ} → limit < 255 → (n : ℕ) → limit < n → limit < byte n
byte_unknown {limit} below n h = elim (dec_lt n 255) [ yes small ↦ subst (λ k. limit < k) (sym (byte_small n small)) h | no large ↦ subst (λ k. limit < k) (sym (byte_large n (omega arith))) below ]
