-- What a step of a lent record has to be: the kernel's, with the call and the answer in the host's numbers.
use Rattle.std.specs.Prelude.{◌≡◌, not, T}
use Rattle.model.specs.Rows.{Model}
use Rattle.decide.specs.Decisions.{after}
use Rattle.decide.specs.Touches.{Touches, changed_by}
use Rattle.decide.specs.declared.Decision.{Decision}
use Rattle.decide.specs.declared.Touched.{Touched}
use Rattle.record.specs.declared.State.{State}
use Rattle.record.specs.declared.Step.{Step}
use Rattle.kernel.specs.Steps.{Judged}
use Rattle.model.specs.Engine.{SteppedAs}
use Rattle.host_calls.specs.Calls.{call_of, answer_of}
use Rattle.host_calls.specs.declared.HostAnswer.{HostAnswer}
use Rattle.host_calls.specs.declared.HostCall.{HostCall}
use Rattle.host_record.specs.declared.HostRecord.{HostRecord}
use Rattle.host_record.specs.Record.{host_engine}
use Rattle.host_record.specs.Written.{Written}

-- A step of any record, whatever its numbers, with any call: the call is read by `call_of`, and the step's answer written by `answer_of`. A refused call leaves
-- every field as it was, unused ones too.
abbrev pub HostStepped : HostRecord → HostCall → HostRecord → HostAnswer → Type 0
HostStepped r c after answer = SteppedAs host_engine call_of answer_of r c after answer

-- ── The parts of a call ──

-- The judgement of the kernel.
abbrev pub CallJudged : State → HostCall → Decision → Type 0
CallJudged s c d = Judged s (call_of c) d

-- Of a decision that changes nothing.
abbrev pub Said : Decision → HostAnswer → Type 0
Said d given = T (not (changed_by d)) → (m : Model) → given ≡ answer_of (after m d).answer

-- The tasks that the decision touches were written back, and all else is the new state's.
pub record Stored (lent : HostRecord) (x : Step) (d : Decision) (r : HostRecord) : Type 0 where
  pub touched : Touched
  pub touches : Touches d touched
  pub written : Written lent x.state touched r
