-- `decode` asks what the definition asks.
use mathlib.Core.Path.{refl}
use Rattle.model.specs.Errors.{unknown}
use Rattle.recording.specs.Recording.{not_run}
use Rattle.recording.specs.Decoded.{decoded}
use Rattle.recording.proofs.decode.Goals as goal

pub returns-then-unknown-spare_is_zero : goal.returns-then-unknown-spare_is_zero
unfolding decoded not_run unknown
returns-then-unknown-spare_is_zero c =
    rw (rw (c.spare_is_zero.ensures, c.is_unknown-unknown.ensures) at c.if-unknown-spare_is_zero.true) refl

pub returns : goal.returns
unfolding decoded not_run unknown
returns c =
    rw (c.recorded_answer.ensures, c.call_of.ensures, rw (c.spare_is_zero.ensures, c.is_unknown-unknown.ensures) at c.if-unknown-spare_is_zero.false) refl
