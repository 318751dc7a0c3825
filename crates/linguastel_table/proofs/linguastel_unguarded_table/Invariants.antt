-- The calls before i are made.
use Rattle.host_calls.specs.Calls.{call_of, answer_of}
use Rattle.tables.proofs.Made.{Walking}
use Rattle.linguastel_table.proofs.linguastel_unguarded_table.Given as goal

abbrev pub invariant-loop-i : goal.invariant-loop-i
invariant-loop-i l = Walking call_of answer_of l.initial.state l.calls l.fn.answers l.i l.state l.answers
