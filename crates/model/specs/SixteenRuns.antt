-- Document 01, "Sixteen runs": one table, under one statement. Runs 10 and 11 are as document 02, item 1, amends them: one tick more, and run 11 leaves 1.
use Rattle.std.specs.Prelude.{◌≡◌, false, List, [], ◌∷◌, map, ℕ, ℤ, pos}
use Rattle.rows.specs.Runs.{end, answers}
use Rattle.model.specs.Rows.{Model, empty_state}
use Rattle.model.specs.Codes.{Code, E_SYS, E_PAR, E_ID, E_CTX, E_ILUSE, E_OBJ, E_NOEXS, E_RLWAI, E_TMOUT, E_DLT, number, minus, Values, values}
use Rattle.model.specs.Calls.{Call}
use Rattle.model.specs.Step.{step}

-- ── Callers and calls, as the runs write them: nothing is locked or disabled ──

abbrev H : ℕ
H = 0

abbrev T1 : ℕ
T1 = 1

abbrev T2 : ℕ
T2 = 2

abbrev T3 : ℕ
T3 = 3

abbrev T4 : ℕ
T4 = 4

-- Number, caller, object, value, attribute, tmout.
abbrev with_all : ℕ → ℕ → ℕ → ℕ → ℕ → ℤ → Call
with_all number caller object value attribute tmout =
    record { number = number; caller = caller; locked = false; disabled = false; object = object; value = value; tmout = tmout; attribute = attribute }

abbrev plain : ℕ → ℕ → ℕ → ℕ → Call
plain number caller object value = with_all number caller object value 0 (pos 0)

abbrev one_tick : Call
one_tick = plain 0 H 0 0

abbrev define : ℕ → ℕ → Call
define t priority = plain 1 H t priority

abbrev cre_queue : ℕ → ℕ → ℕ → Call
cre_queue q attribute capacity = with_all 2 H q capacity attribute (pos 0)

abbrev del_queue : ℕ → ℕ → Call
del_queue caller q = plain 3 caller q 0

abbrev snd : ℕ → ℕ → ℕ → Call
snd caller q word = plain 4 caller q word

abbrev psnd : ℕ → ℕ → ℕ → Call
psnd caller q word = plain 5 caller q word

abbrev fsnd : ℕ → ℕ → ℕ → Call
fsnd caller q word = plain 7 caller q word

abbrev rcv : ℕ → ℕ → Call
rcv caller q = plain 8 caller q 0

abbrev prcv : ℕ → ℕ → Call
prcv caller q = plain 9 caller q 0

abbrev trcv : ℕ → ℕ → ℤ → Call
trcv caller q tmout = with_all 10 caller q 0 0 tmout

abbrev ref : ℕ → Call
ref q = plain 11 H q 0

abbrev cre_mailbox : ℕ → ℕ → ℕ → Call
cre_mailbox b attribute highest = with_all 12 H b highest attribute (pos 0)

abbrev snd_message : ℕ → ℕ → ℕ → ℕ → Call
snd_message caller b message priority = with_all 14 caller b message priority (pos 0)

abbrev prcv_message : ℕ → ℕ → Call
prcv_message caller b = plain 16 caller b 0

abbrev rel : ℕ → Call
rel t = plain 19 H t 0

abbrev sus : ℕ → Call
sus t = plain 20 H t 0

abbrev rsm : ℕ → Call
rsm t = plain 21 H t 0

abbrev look_at : ℕ → Call
look_at t = plain 22 H t 0

abbrev fetch_of : ℕ → Call
fetch_of t = plain 23 H t 0

-- ── Answers, in document 01's numbers ──

abbrev answer : ℕ → ℤ → ℕ → ℕ → ℕ → Values
answer kind code_or_place a b c = record { kind = kind; code_or_place = code_or_place; a = a; b = b; c = c }

abbrev says : ℕ → ℕ → ℕ → Values
says a b c = answer 0 (pos 0) a b c

abbrev ok : Values
ok = says 0 0 0

abbrev word : ℕ → Values
word a = says a 0 0

-- Waits, at this place.
abbrev W : ℕ → Values
W place = answer 1 (pos place) 0 0 0

-- This code, and no words.
abbrev code : Code → Values
code x = answer 0 (number x) 0 0 0

-- ── The table ──

-- A call, and what it answers.
pub record Line : Type 0 where
  pub asked : Call
  pub given : Values

infix 68 ◌⇒◌
abbrev ◌⇒◌ : Call → Values → Line
asked ⇒ given = record { asked = asked; given = given }

-- The counter at the start, the lines, and the counter that they leave.
pub record PaperRun : Type 0 where
  pub from : ℕ
  pub lines : List Line
  pub leaves : ℕ

-- A run from counter 0 with no tick in it.
abbrev from_0 : List Line → PaperRun
from_0 lines = record { from = 0; lines = lines; leaves = 0 }

-- The common start, as calls by the handler.
abbrev pub setting : List Call
setting =
    define 1 5 ∷ define 2 3 ∷ define 3 5 ∷ define 4 3
    ∷ cre_queue 1 0 2 ∷ cre_queue 2 1 0 ∷ cre_mailbox 1 2 4 ∷ []

-- Runs 10 and 11 have the same lines.
abbrev time_out_of_2 : List Line
time_out_of_2 = trcv T1 1 (pos 2) ⇒ W 0 ∷ one_tick ⇒ word 0 ∷ one_tick ⇒ word 0 ∷ one_tick ⇒ word 1 ∷ fetch_of 1 ⇒ code E_TMOUT ∷ []

unfoldable pub sixteen : List PaperRun
sixteen =
    -- 1
    from_0 (snd T1 1 10 ⇒ ok ∷ snd T1 1 11 ⇒ ok ∷ prcv T2 1 ⇒ word 10 ∷ prcv T2 1 ⇒ word 11 ∷ prcv T2 1 ⇒ code E_TMOUT ∷ [])
    -- 2
    ∷ from_0 (snd T1 1 10 ⇒ ok ∷ snd T1 1 11 ⇒ ok ∷ snd T1 1 12 ⇒ W 0 ∷ prcv T2 1 ⇒ word 10 ∷ fetch_of 1 ⇒ ok ∷ ref 1 ⇒ says 0 0 2
    ∷ prcv H 1 ⇒ word 11 ∷ prcv H 1 ⇒ word 12 ∷ [])
    -- 3
    ∷ from_0 (snd T1 1 10 ⇒ ok ∷ snd T1 1 11 ⇒ ok ∷ fsnd T1 1 12 ⇒ ok ∷ prcv T2 1 ⇒ word 11 ∷ prcv T2 1 ⇒ word 12 ∷ [])
    -- 4
    ∷ from_0 (snd T1 1 10 ⇒ ok ∷ snd T1 1 11 ⇒ ok ∷ snd T1 1 12 ⇒ W 0 ∷ fsnd T2 1 13 ⇒ ok ∷ ref 1 ⇒ says 1 0 2
    ∷ prcv T2 1 ⇒ word 11 ∷ prcv T2 1 ⇒ word 13 ∷ prcv T2 1 ⇒ word 12 ∷ [])
    -- 5
    ∷ from_0 (psnd T1 2 1 ⇒ code E_TMOUT ∷ fsnd H 2 1 ⇒ code E_ILUSE ∷ [])
    -- 6
    ∷ from_0 (rcv T3 2 ⇒ W 0 ∷ fsnd T1 2 7 ⇒ ok ∷ fetch_of 3 ⇒ word 7 ∷ [])
    -- 7
    ∷ from_0 (snd T1 2 1 ⇒ W 0 ∷ snd T3 2 3 ⇒ W 1 ∷ snd T2 2 2 ⇒ W 0 ∷ ref 2 ⇒ says 2 0 0
    ∷ prcv T4 2 ⇒ word 2 ∷ prcv T4 2 ⇒ word 1 ∷ prcv T4 2 ⇒ word 3 ∷ [])
    -- 8
    ∷ from_0 (rcv T1 2 ⇒ W 0 ∷ rcv T2 2 ⇒ W 1 ∷ psnd T3 2 9 ⇒ ok ∷ fetch_of 1 ⇒ word 9 ∷ fetch_of 2 ⇒ code E_OBJ ∷ [])
    -- 9
    ∷ from_0 (snd T1 1 10 ⇒ ok ∷ snd T1 1 11 ⇒ ok ∷ snd T1 1 12 ⇒ W 0 ∷ rel 1 ⇒ ok ∷ fetch_of 1 ⇒ code E_RLWAI
    ∷ prcv T2 1 ⇒ word 10 ∷ prcv T2 1 ⇒ word 11 ∷ prcv T2 1 ⇒ code E_TMOUT ∷ [])
    -- 10
    ∷ record { from = 0; leaves = 3; lines = time_out_of_2 }
    -- 11
    ∷ record { from = 4294967294; leaves = 1; lines = time_out_of_2 }
    -- 12
    ∷ from_0 (snd_message T1 1 5 3 ⇒ word 0 ∷ snd_message T1 1 6 1 ⇒ word 0 ∷ snd_message T1 1 7 3 ⇒ word 2
    ∷ prcv_message T2 1 ⇒ word 6 ∷ prcv_message T2 1 ⇒ word 5 ∷ prcv_message T2 1 ⇒ word 7 ∷ [])
    -- 13
    ∷ from_0 (snd_message H 1 5 0 ⇒ code E_PAR ∷ snd_message H 1 5 5 ⇒ code E_PAR ∷ snd_message H 1 5 4 ⇒ ok ∷ snd_message H 1 5 4 ⇒ code E_OBJ
    ∷ prcv_message H 1 ⇒ word 5 ∷ snd_message H 1 5 4 ⇒ ok ∷ [])
    -- 14
    ∷ from_0 (snd T1 2 1 ⇒ W 0 ∷ del_queue T2 2 ⇒ ok ∷ fetch_of 1 ⇒ code E_DLT ∷ ref 2 ⇒ code E_NOEXS ∷ [])
    -- 15
    ∷ from_0 (rcv T3 1 ⇒ W 0 ∷ sus 3 ⇒ ok ∷ snd T1 1 8 ⇒ ok ∷ look_at 3 ⇒ says 0 0 1 ∷ snd T3 1 1 ⇒ code E_SYS
    ∷ rsm 3 ⇒ ok ∷ fetch_of 3 ⇒ word 8 ∷ [])
    -- 16
    ∷ from_0 (trcv H 99 (minus 2) ⇒ code E_CTX ∷ trcv T1 99 (minus 2) ⇒ code E_ID ∷ trcv T1 3 (minus 2) ⇒ code E_PAR ∷ trcv T1 3 (pos 0) ⇒ code E_NOEXS ∷ [])
    ∷ []

-- ── The statement ──

abbrev pub start : ℕ → Model
start counter = end step (empty_state counter) setting

abbrev pub asked : PaperRun → List Call
asked r = map (λ line. line.asked) r.lines

-- What the definition answers, and the counter that it leaves.
abbrev pub computed : PaperRun → List Values × ℕ
computed r = (map values (answers step (start r.from) (asked r)), (end step (start r.from) (asked r)).environment.counter)

-- What document 01 writes.
abbrev pub written : PaperRun → List Values × ℕ
written r = (map (λ line. line.given) r.lines, r.leaves)

abbrev pub SixteenRuns : Type 0
SixteenRuns = map computed sixteen ≡ map written sixteen
