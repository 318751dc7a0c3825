-- `read_record` goes by what is decoded.
use mathlib.Core.Path.{refl, sym, ◌∙◌}
use lib.Dec.{T_not}
use Rattle.recording.specs.Recording.{not_run}
use Rattle.recording.proofs.Runs.{decoded_not_run, decoded_run}
use Rattle.replays.proofs.read_record.Goals as goal

pub returns-in_err-run : goal.returns-in_err-run
returns-in_err-run c =
    rw c.from_residual.ensures
    (record { left_out = λ t. refl; run = λ n. absurd (T_not (not_run c.args.bytes.now) n (decoded_not_run _ (sym c.decode.ensures ∙ c.in_err-run.was))) })

pub returns : goal.returns
returns c =
    let was-run = decoded_run _ (sym c.decode.ensures ∙ c.in_ok-run.was) in
    let judged = c.judge_sound.ensures in
    record {
      left_out = λ t. absurd (T_not (not_run c.args.bytes.now) was-run.is_run t);
      run = λ n. record { appliable = judged.appliable; judged = rw was-run.call_is judged; recorded_is = sym was-run.recorded_is };
    }
