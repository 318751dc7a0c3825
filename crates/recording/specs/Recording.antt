-- Document 02, item 3: the record of 32 bytes in which a unit keeps a call and its answer. A record is the list of its bytes, which are counted from 0.
use Rattle.std.specs.Prelude.{Bool, false, not, cond, ◌&&◌, ◌||◌, List, ℕ, ◌+◌, ◌*◌, ◌-◌, eqb, ltb, get_or, ℤ, pos, negsuc}
use Rattle.model.specs.Codes.{Values}
use Rattle.model.specs.declared.Call.{Call}
use Rattle.model.specs.Errors.{unknown}

-- ── Numbers: "little-endian, tmout and code signed" ──

abbrev pub byte : List ℕ → ℕ → ℕ
byte r n = get_or r n 0

-- Bytes n and n + 1.
abbrev pub half : List ℕ → ℕ → ℕ
half r n = byte r n + 256 * byte r (n + 1)

-- Bytes n to n + 3.
abbrev pub word : List ℕ → ℕ → ℕ
word r n = half r n + 65536 * half r (n + 2)

-- Two's complement: from 2 ^ 31 on a word stands for itself less 2 ^ 32, so the largest one for -1 (`negsuc n` is -1 - n).
abbrev pub signed : ℕ → ℤ
signed w = cond (ltb w 2147483648) (pos w) (negsuc (4294967295 - w))

-- Whether two signed numbers are the same.
abbrev pub same_ℤ : ℤ → ℤ → Bool
same_ℤ (pos m) (pos n) = eqb m n
same_ℤ (negsuc m) (negsuc n) = eqb m n
same_ℤ (pos m) (negsuc n) = false
same_ℤ (negsuc m) (pos n) = false

-- ── Bytes 0 to 15: the call ──

abbrev pub flags : List ℕ → ℕ
flags r = byte r 2

-- "1 locked, 2 dispatching disabled": 3 is both. The field at 4 is word, message, capacity, task priority or highest message priority, that at 12 attribute or
-- message priority: all four bytes count, so 256 is no attribute. A field that the call doesn't use plays no part in its step.
abbrev pub recorded_call : List ℕ → Call
recorded_call r = record {
  number = byte r 0;
  caller = byte r 1;
  locked = eqb (flags r) 1 || eqb (flags r) 3;
  disabled = eqb (flags r) 2 || eqb (flags r) 3;
  object = byte r 3;
  value = word r 4;
  tmout = signed (word r 8);
  attribute = word r 12;
}

-- ── Bytes 16 to 31: the answer ──

abbrev pub recorded_kind : List ℕ → ℕ
recorded_kind r = byte r 16

-- "code or place": a finished answer, kind 0, has a code, which is signed; one that waits has a place.
unfoldable pub recorded_values : List ℕ → Values
recorded_values r = record {
  kind = recorded_kind r;
  code_or_place = cond (eqb (recorded_kind r) 0) (signed (word r 20)) (pos (word r 20));
  a = word r 24;
  b = byte r 28;
  c = half r 29;
}

-- "17-19 zero", "31 zero".
abbrev pub spare_is_zero : List ℕ → Bool
spare_is_zero r = eqb (byte r 17) 0 && eqb (byte r 18) 0 && eqb (byte r 19) 0 && eqb (byte r 31) 0

-- "A record with an unknown call, kind or flag (in a tick too), or a non-zero spare byte": the tick's number, 0, is known.
unfoldable pub not_run : List ℕ → Bool
not_run r = unknown (recorded_call r) || ltb 1 (recorded_kind r) || ltb 3 (flags r) || not (spare_is_zero r)
