-- Whether a host's record is sound, told by a call that changes nothing: look, by caller 0, of task 0. It is refused with E_ID where the record is sound, since
-- 0 is no task's number, and with E_SYS where it isn't. So the library needs no function for the test alone.
use Rattle.std.specs.Prelude.{◌≡◌, pos}
use Rattle.model.specs.Codes.{number}
use Rattle.model.specs.declared.Code.TheVariants.{Id as E_ID, Sys as E_SYS}
use Rattle.host_calls.specs.declared.HostAnswer.{HostAnswer}
use Rattle.host_calls.specs.declared.HostCall.{HostCall}
use Rattle.host_record.specs.declared.HostRecord.{HostRecord}
use Rattle.host_record.specs.Record.{HostSound}
use Rattle.host_record.specs.Step.{HostStepped}

abbrev pub sound_call : HostCall
sound_call = record { number = 22; caller = 0; locked = 0; disabled = 0; object = 0; value = 0; tmout = pos 0; attribute = 0 }

-- Whatever the record holds, it is left as it was.
pub record Tells (lent after : HostRecord) (given : HostAnswer) : Type 0 where
  pub sound : HostSound lent → given.code ≡ number E_ID
  pub unsound : (HostSound lent → ⊥) → given.code ≡ number E_SYS
  pub same_if_sound : HostSound lent → after ≡ lent
  pub same_if_not : (HostSound lent → ⊥) → after ≡ lent

abbrev pub SoundByCall : Type 0
SoundByCall = (lent after : HostRecord) (given : HostAnswer) → HostStepped lent sound_call after given → Tells lent after given
