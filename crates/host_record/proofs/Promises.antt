-- What a step promises in the host's own numbers: a number is known where it was, and unknown where it was, so it is what the kernel's step promises of the call.
use mathlib.Core.Path.{◌≡◌, sym, ap, ◌∙◌, subst}
use mathlib.Core.Bool.{not}
use Prim.Native.Nat.{◌<◌, ◌≤◌}
use native.Mathlib.Omega.{arith}
use lib.Dec.{T, eqb}
use Rattle.model.specs.Sizes.{call_limit}
use Rattle.model.specs.Codes.{finished}
use Rattle.model.specs.Calls.{view_of}
use Rattle.model.specs.Engine.{RefusedWith}
use Rattle.model.specs.Errors.{refused}
use Rattle.model.specs.Step.{step}
use Rattle.model.specs.declared.Answer.{Answer}
use Rattle.model.specs.declared.Code.{Code}
use Rattle.model.specs.declared.Code.TheVariants.{Par as E_PAR, Sys as E_SYS}
use Rattle.host_calls.specs.Calls.{call_of, answer_of}
use Rattle.host_calls.specs.declared.HostAnswer.{HostAnswer}
use Rattle.host_calls.specs.declared.HostCall.{HostCall}
use Rattle.host_calls.proofs.Bytes.{byte_known, byte_unknown}
use Rattle.host_record.specs.declared.HostRecord.{HostRecord}
use Rattle.host_record.specs.Record.{HostSound, meaning}
use Rattle.host_record.specs.Step.{HostStepped}

-- ── The call's number ──

unknown_number : (c : HostCall) → call_limit < c.number → call_limit < (call_of c).number
unfolding call_of
unknown_number c above = byte_unknown {limit = call_limit} (omega arith) c.number above

known_number : (c : HostCall) → c.number ≤ call_limit → (call_of c).number ≡ c.number
unfolding call_of
known_number c within = byte_known {limit = call_limit} (omega arith) c.number within

known : (c : HostCall) → c.number ≤ call_limit → (call_of c).number ≤ call_limit
known c within = subst (λ n. n ≤ call_limit) (sym (known_number c within)) within

-- ── What a host is promised ──

-- The call is refused: this code with no words, and the very record, its unused fields too.
pub record HostRefused (code : Code) (lent after : HostRecord) (given : HostAnswer) : Type 0 where
  pub state_is : after ≡ lent
  pub answer_is : given ≡ answer_of (finished code 0 0 0)

refused_for_host : {lent after : HostRecord} {code : Code} {answer : Answer} {given : HostAnswer} → RefusedWith code lent after answer → given ≡ answer_of answer
    → HostRefused code lent after given
refused_for_host h e = record { state_is = h.state_is; answer_is = e ∙ ap answer_of h.finished_with.answer_is }

module _ {lent after : HostRecord} {c : HostCall} {given : HostAnswer} (h : HostStepped lent c after given) where
  pub host_unknown : call_limit < c.number → HostRefused E_PAR lent after given
  host_unknown above = refused_for_host (h.stepped.unknown (unknown_number c above)) h.given_is

  module _ (within : c.number ≤ call_limit) where
    pub host_unsound : (HostSound lent → ⊥) → HostRefused E_SYS lent after given
    host_unsound broken = refused_for_host (h.stepped.unsound (known c within) broken) h.given_is

    module _ (S : HostSound lent) where
      pub host_answer : given ≡ answer_of (step (meaning lent) (call_of c)).answer
      host_answer = h.given_is ∙ ap answer_of (h.stepped.sound (known c within) S).answer_is

      pub host_meaning : meaning after ≡ (step (meaning lent) (call_of c)).state
      host_meaning = (h.stepped.sound (known c within) S).meaning_is

      pub host_sound : HostSound after
      host_sound = (h.stepped.sound (known c within) S).sound

      -- A refused call leaves every field as it was.
      pub host_unchanged : T (not (eqb c.number 0)) → T (refused (view_of (meaning lent) (call_of c)) (call_of c)) → after ≡ lent
      host_unchanged some refused = (h.stepped.sound (known c within) S).unchanged (subst (λ n. T (not (eqb n 0))) (sym (known_number c within)) some) refused
