-- The part of a record, byte by byte.
use mathlib.Core.Path.{◌≡◌, sym, ◌∙◌}
use mathlib.Core.List.{List}
use Prim.Native.Nat.{ℕ}
use native.Mathlib.Omega.{arith}
use lib.ListN.{length, take}
use lib.Seq.{take_all}

-- A part of 32 bytes is a record.
pub whole_part : {part bytes : List ℕ} (n : ℕ) → length part ≡ 32 → n ≡ 32 → take n part ≡ bytes → part ≡ bytes
whole_part {part} n size e h = sym (take_all n part (omega arith)) ∙ h
