-- The call that tells whether a record is sound: step 1 of the error table refuses it on a record that isn't, and step 3 on every other.
use mathlib.Core.Path.{◌≡◌, refl, ap, ◌∙◌}
use mathlib.Core.Bool.{not}
use native.Mathlib.Omega.{arith}
use lib.Dec.{T}
use Rattle.lists.specs.Lists.{one_of}
use Rattle.rows.specs.Program.{Result}
use Rattle.model.specs.Rows.{Model}
use Rattle.model.specs.Codes.{finished}
use Rattle.model.specs.Step.{step}
use Rattle.model.specs.declared.Answer.{Answer}
use Rattle.model.specs.Calls.{View, is_tick, view_of}
use Rattle.model.specs.Errors.{unknown, caller_cannot_call, called_while_locked, called_by_handler, suspends_itself, called_while_disabled, number_outside}
use Rattle.model.specs.Errors.{rows_to_step_4, error_table, some_applies, first_that_applies, refused, refusal}
use Rattle.model.specs.declared.Code.TheVariants.{Id as E_ID}
use Rattle.model.proofs.Refusals.{refusals}
use Rattle.host_calls.specs.Calls.{byte, call_of, answer_of}
use Rattle.host_calls.specs.declared.HostAnswer.{HostAnswer}
use Rattle.host_record.specs.Record.{meaning}
use Rattle.host_record.specs.ByCall.{sound_call, SoundByCall}
use Rattle.host_record.proofs.Promises.{host_unsound, host_answer, host_unchanged}

no_tick : T (not (is_tick (call_of sound_call)))
unfolding call_of byte
no_tick = tt

is_refused : (v : View) → T (refused v (call_of sound_call)) × (refusal v (call_of sound_call) ≡ E_ID)
unfolding call_of byte refused refusal error_table rows_to_step_4 some_applies first_that_applies unknown caller_cannot_call called_while_locked called_by_handler called_while_disabled suspends_itself number_outside one_of
is_refused v = (tt, refl)

pub sound_by_call : SoundByCall
unfolding answer_of
sound_by_call lent after given h = record {
  sound = λ S.
      let r = is_refused (view_of (meaning lent) (call_of sound_call)) in
      let row = (refusals (meaning lent) (call_of sound_call) no_tick).by_row r.0 in
      let answer : (step (meaning lent) (call_of sound_call)).answer ≡ finished E_ID 0 0 0 = ap (λ (o : Result Model Answer). o.answer) row ∙ ap (λ code. finished code 0 0 0) r.1 in
      ap (λ (x : HostAnswer). x.code) (host_answer h (omega arith) S ∙ ap answer_of answer);
  unsound = λ f. ap (λ (x : HostAnswer). x.code) (host_unsound h (omega arith) f).answer_is;
  same_if_sound = λ S. host_unchanged h (omega arith) S tt (is_refused (view_of (meaning lent) (call_of sound_call))).0;
  same_if_not = λ f. (host_unsound h (omega arith) f).state_is;
}
