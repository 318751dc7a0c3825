-- Document 02, item 3: its own examples, and a short file for each of its sentences; item 5: a file in blocks. A record is written by its fields.
use Rattle.std.specs.Prelude.{◌≡◌, List, [], ◌∷◌, ◌++◌, ℕ, take, drop}
use Rattle.recording.specs.Replay.{start, Line, line, replayed}
use Rattle.recording.specs.Blocks.{begun, all_fed, line_of}

-- Bytes 0 to 3: call number, caller, flags, task or object. Then fields of four bytes: value, tmout, attribute.
abbrev pub call_bytes : ℕ → ℕ → ℕ → ℕ → List ℕ → List ℕ → List ℕ → List ℕ
call_bytes number caller flags object value tmout attribute = number ∷ caller ∷ flags ∷ object ∷ value ++ tmout ++ attribute

-- Byte 16, the kind, with bytes 17 to 19; code or place; a; b, c and byte 31.
abbrev pub answer_bytes : ℕ → List ℕ → List ℕ → List ℕ
answer_bytes kind code_or_place a = kind ∷ 0 ∷ 0 ∷ 0 ∷ code_or_place ++ a ++ (0 ∷ 0 ∷ 0 ∷ 0 ∷ [])

-- Four bytes: a small number, and -n.
abbrev pub small : ℕ → List ℕ
small n = n ∷ 0 ∷ 0 ∷ 0 ∷ []

abbrev pub minus_41 : List ℕ
minus_41 = 215 ∷ 255 ∷ 255 ∷ 255 ∷ []

abbrev pub minus_17 : List ℕ
minus_17 = 239 ∷ 255 ∷ 255 ∷ 255 ∷ []

-- E_OK with no words.
abbrev pub ok : List ℕ
ok = answer_bytes 0 (small 0) (small 0)

-- A tick, in which flags play no part where they are known.
abbrev pub a_tick : ℕ → List ℕ
a_tick flags = call_bytes 0 0 flags 0 (small 0) (small 0) (small 0) ++ ok

-- Task 1 is defined with priority 5, by start-up.
abbrev pub defines : List ℕ → List ℕ
defines answer = call_bytes 1 0 0 1 (small 5) (small 0) (small 0) ++ answer

-- Data queue 1 is created with capacity 0 and this attribute.
abbrev pub creates : List ℕ → List ℕ → List ℕ
creates attribute answer = call_bytes 2 0 0 1 (small 0) (small 0) attribute ++ answer

-- Task 1 receives from it, and waits with nobody ahead.
abbrev pub waits_with : ℕ → List ℕ
waits_with a = call_bytes 8 1 0 1 (small 0) (small 0) (small 0) ++ answer_bytes 1 (small 0) (small a)

-- rel_wai of task 1.
abbrev pub releases : List ℕ
releases = call_bytes 19 0 0 1 (small 0) (small 0) (small 0) ++ ok

abbrev pub prints : ℕ → ℕ → ℕ → ℕ → Line
prints records differ first tail = record { records = records; differ = differ; first = first; tail = tail }

pub record Examples : Type 0 where
  -- "an empty file".
  pub empty_file : line [] ≡ prints 0 0 0 0
  -- "Three records whose second answer differs": the call is made all the same, since task 1 exists afterwards (E_OBJ).
  pub three_records : line (a_tick 0 ++ defines (answer_bytes 0 minus_17 (small 0)) ++ defines (answer_bytes 0 minus_41 (small 0))) ≡ prints 3 1 2 0
  -- The bytes after the last whole record, of a file with a record and of one without.
  pub tail_behind_a_record : line (a_tick 0 ++ 1 ∷ []) ≡ prints 1 0 0 1
  pub tail_alone : line (small 7) ≡ prints 0 0 0 4
  -- "flag (in a tick too)": it isn't run, and the counter stays.
  pub flag_in_a_tick : line (a_tick 4) ≡ prints 1 1 1 0
  pub flag_keeps_the_state : replayed (a_tick 4) ≡ start
  -- Flags that are known play no part in a tick.
  pub known_flags_in_a_tick : line (a_tick 3) ≡ prints 1 0 0 0
  -- Attribute 256 is outside, though its lowest byte is 0.
  pub attribute_256 : line (creates (0 ∷ 1 ∷ 0 ∷ 0 ∷ []) (answer_bytes 0 minus_17 (small 0))) ≡ prints 1 0 0 0
  -- "For waits, a, b and c are 0, and anything else there differs": the task waits all the same, so rel_wai ends its wait.
  pub wait_with_a_word : line (defines ok ++ creates (small 0) ok ++ waits_with 7 ++ releases) ≡ prints 4 1 3 0
  pub wait_without_one : line (defines ok ++ creates (small 0) ok ++ waits_with 0 ++ releases) ≡ prints 4 0 0 0
  -- Item 5: a record in blocks of 5, of no and of 27 bytes, and a byte behind it.
  pub in_blocks : line_of (all_fed begun (take 5 (a_tick 0) ∷ [] ∷ drop 5 (a_tick 0) ∷ (7 ∷ []) ∷ [])) ≡ prints 1 0 0 1
