-- The calls before i are made.
use Rattle.tables.proofs.Made.{Walking}
use Rattle.table_entry.proofs.enter_table.Given as goal

abbrev pub invariant-loop-i : goal.invariant-loop-i
invariant-loop-i l = Walking (λ c. c) (λ x. x) l.initial.state l.calls l.fn.answers l.i l.state l.answers
