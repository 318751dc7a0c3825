-- Document 02, item 2, on a lent record: the kernel's calls, answers and codes as they are.
use Rattle.std.specs.Prelude.{List}
use Rattle.model.specs.Tables.{TableMade}
use Rattle.model.specs.declared.Answer.{Answer}
use Rattle.model.specs.declared.Call.{Call}
use Rattle.model.specs.declared.Code.{Code}
use Rattle.record.specs.declared.State.{State}
use Rattle.record.specs.Step.{state_engine}

-- The table found the lent record as `before` and the answer table as `cells`, left them as `after` and `given`, and gave the code.
abbrev pub TableEntered : State → List Call → List Answer → State → List Answer → Code → Type 0
TableEntered before calls cells after given code = TableMade state_engine (λ c. c) (λ x. x) (λ code. code) before calls cells after given code
