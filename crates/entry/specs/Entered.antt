-- Document 01, "The kernel part we mean": the lent record is changed where it stands.
use Rattle.model.specs.Engine.{Stepped}
use Rattle.model.specs.declared.Answer.{Answer}
use Rattle.model.specs.declared.Call.{Call}
use Rattle.record.specs.declared.State.{State}
use Rattle.record.specs.Step.{state_engine}

-- The call found the lent record as `before`, left it as `after` and gave the answer: those are the record and the answer of a step.
abbrev pub Entered : State → Call → State → Answer → Type 0
Entered before call after answer = Stepped state_engine before call after answer
