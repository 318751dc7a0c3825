-- Document 01, "The kernel part we mean": the host lends its one state record, which is changed where it stands.
use Rattle.host_calls.specs.declared.HostAnswer.{HostAnswer}
use Rattle.host_calls.specs.declared.HostCall.{HostCall}
use Rattle.host_record.specs.declared.HostRecord.{HostRecord}
use Rattle.host_record.specs.Step.{HostStepped}

-- The call found the lent record as `before`, left it as `after` and gave the answer: those are the record and the answer of a step.
abbrev pub Called : HostRecord → HostCall → HostRecord → HostAnswer → Type 0
Called before call after answer = HostStepped before call after answer
