-- Document 02, item 2, on the record that a host lends: calls, answers and codes in its numbers.
use Rattle.std.specs.Prelude.{List, ℤ}
use Rattle.model.specs.Codes.{number}
use Rattle.model.specs.Tables.{TableMade}
use Rattle.host_calls.specs.Calls.{call_of, answer_of}
use Rattle.host_calls.specs.declared.HostAnswer.{HostAnswer}
use Rattle.host_calls.specs.declared.HostCall.{HostCall}
use Rattle.host_record.specs.Record.{host_engine}
use Rattle.host_record.specs.declared.HostRecord.{HostRecord}

-- The table found the lent record as `before` and the answer table as `cells`, left them as `after` and `given`, and gave the code.
abbrev pub TableCalled : HostRecord → List HostCall → List HostAnswer → HostRecord → List HostAnswer → ℤ → Type 0
TableCalled before calls cells after given code = TableMade host_engine call_of answer_of number before calls cells after given code
