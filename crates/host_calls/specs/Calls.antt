-- A call and its answer in numbers.
use Rattle.std.specs.Prelude.{cond, not, ℕ, eqb, ltb, ℤ, pos}
use Rattle.model.specs.Codes.{number, kind}
use Rattle.model.specs.declared.Answer.{Answer}
use Rattle.model.specs.declared.Call.{Call}
use Rattle.model.specs.declared.Outcome.{Outcome}
use Rattle.model.specs.declared.Outcome.TheVariants.{Finished, Waits}
use Rattle.host_calls.specs.declared.HostCall.{HostCall}
use Rattle.host_calls.specs.declared.HostAnswer.{HostAnswer}

-- A number from 255 on reads as 255, which no call, task or object has.
unfoldable pub byte : ℕ → ℕ
byte n = cond (ltb n 255) n 255

unfoldable pub call_of : HostCall → Call
call_of x = record {
  number = byte x.number;
  caller = byte x.caller;
  locked = not (eqb x.locked 0);
  disabled = not (eqb x.disabled 0);
  object = byte x.object;
  value = x.value;
  tmout = x.tmout;
  attribute = x.attribute;
}

-- The kind is 0 for a finished answer, which has a code, and 1 for one that waits, which has a place. Its code is 1, which is none of document 01's: a host
-- that asks for E_OK alone doesn't take a call that waits for one that is done.
abbrev pub code_of : Outcome → ℤ
code_of (Finished code) = number code
code_of (Waits place) = pos 1

abbrev pub place_of : Outcome → ℕ
place_of (Finished code) = 0
place_of (Waits place) = place

unfoldable pub answer_of : Answer → HostAnswer
answer_of x = record { kind = kind x.outcome; code = code_of x.outcome; place = place_of x.outcome; a = x.a; b = x.b; c = x.c }
