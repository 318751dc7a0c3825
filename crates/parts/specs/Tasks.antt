-- Document 01, "A sound record", of one task: its row, and what the test of it decides ("sound" is that document's word).
use Rattle.std.specs.Prelude.{◌≡◌, cond, ℕ, ◌+◌, ◌≤◌, T, eqb}
use Rattle.model.specs.Rows.{TaskRow}
use Rattle.model.specs.Codes.{minus, number}
use Rattle.model.specs.declared.Code.{Code}
use Rattle.model.specs.declared.Code.TheVariants.{Ok, Sys, Par, Id, Ctx, Iluse, Obj, Noexs, Qovr, Rlwai, Tmout, Dlt}
use Rattle.model.specs.declared.Wait.{Wait}
use Rattle.model.specs.declared.Wait.TheVariants.{NoWait}
use Rattle.model.specs.Waits.{wait_end}
use Rattle.model.specs.WellFormed.{ObjectInRange, EndAhead, TaskWellFormed}
use Rattle.parts.specs.Chains.{wait_chain}
use Rattle.parts.specs.declared.Task.{Task}

-- The code with this number, but for its sign. A number that no code has reads as E_SYS, which isn't stored with a defined task of a sound record.
unfoldable pub read_code : ℕ → Code
read_code n =
    cond (eqb n 0) Ok
    (cond (eqb n 17) Par
    (cond (eqb n 18) Id
    (cond (eqb n 25) Ctx
    (cond (eqb n 28) Iluse
    (cond (eqb n 41) Obj
    (cond (eqb n 42) Noexs
    (cond (eqb n 43) Qovr
    (cond (eqb n 49) Rlwai
    (cond (eqb n 50) Tmout
    (cond (eqb n 51) Dlt Sys))))))))))

-- The number of a code, but for its sign.
abbrev pub code_byte : Code → ℕ
code_byte Ok = 0
code_byte Sys = 5
code_byte Par = 17
code_byte Id = 18
code_byte Ctx = 25
code_byte Iluse = 28
code_byte Obj = 41
code_byte Noexs = 42
code_byte Qovr = 43
code_byte Rlwai = 49
code_byte Tmout = 50
code_byte Dlt = 51

-- It is document 01's number of the code, and is read as the code.
pub record CodeByte (code : Code) : Type 0 where
  pub is_number : number code ≡ minus (code_byte code)
  pub is_read : read_code (code_byte code) ≡ code

abbrev pub CodeBytes : Type 0
CodeBytes = (code : Code) → CodeByte code

-- A task whose wait ended, and one whose wait starts.
abbrev pub with_wait_ended : ℕ → ℕ → Task → Task
with_wait_ended code word x = record { wait = NoWait; word = word; code = code; defined = x.defined; suspended = x.suspended }

abbrev pub with_wait_started : Wait → Task → Task
with_wait_started wait x = record { wait = wait; word = 0; code = 0; defined = x.defined; suspended = x.suspended }

-- What a task's record and its priority mean. Of an undefined task the priority and the stored pair aren't kept.
abbrev pub task_row : Task → ℕ → TaskRow
task_row x priority = record {
  defined = x.defined;
  priority = cond x.defined priority 0;
  wait = x.wait;
  code = cond x.defined (read_code x.code) Ok;
  word = cond x.defined x.word 0;
}

pub record TaskSound (counter priority standing : ℕ) (x : Task) : Type 0 where
  -- The task stands in the chain that its wait names, or in none.
  pub stands : wait_chain x.wait ≡ standing
  -- Only a task that is defined is suspended.
  pub suspension : T x.suspended → T x.defined
  pub row : TaskWellFormed (task_row x priority)
  -- The end tick, where there is one, is ahead.
  pub end : EndAhead counter (wait_end x.wait)

-- What the parts of the test decide.
pub record NamesChain (standing before number : ℕ) : Type 0 where
  pub low : 1 ≤ number
  pub high : number ≤ 16
  pub chain_is : before + number ≡ standing

pub record WaitSound (counter standing : ℕ) (wait : Wait) : Type 0 where
  pub stands : wait_chain wait ≡ standing
  pub object_in_range : ObjectInRange wait
  pub end : EndAhead counter (wait_end wait)
