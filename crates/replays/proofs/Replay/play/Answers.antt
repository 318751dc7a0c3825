-- `play` takes a record at each turn, and keeps what is left.
use mathlib.Core.Path.{refl, sym, ◌∙◌, ap}
use native.Mathlib.Nat.{zero-add}
use lib.ListN.{take}
use Rattle.replays.proofs.Turns.{left_out, stays, moves, starts, turn, ends}
use Rattle.replays.proofs.Replay.play.Goals.{then-changes, else-changes}
use Rattle.replays.proofs.Replay.play.Goals as goal

pub loop-record-init : goal.loop-record-init
loop-record-init c = starts c.requires.sound_replay (rw c.as_chunks.ensures.front_len c.requires.within_limit)

pub loop-record-preserved-in_default : goal.loop-record-preserved-in_default
loop-record-preserved-in_default c =
    let going = c.loop-record.invariant in
    turn going c.loop-record-test.true (left_out going.sound c.read_record.ensures c.in_default.is) c.counted-tally.ensures

pub loop-record-preserved : goal.loop-record-preserved
loop-record-preserved c =
    let going = c.loop-record.invariant in
    let read = c.read_record.ensures in
    let some = c.in-Some.is in
    let same = c.same_answer.ensures in
    let counted = c.counted-tally-in-loop-record.ensures in
    elim c.if-changes.branch [
      | then-changes w ↦
          let played = moves going.sound read some w.apply-last.ensures in
          turn going c.loop-record-test.true (rw (w.last-is, same, w.answer-is) played) counted
      | else-changes w ↦
          let played = stays going.sound read some (sym c.changes.ensures ∙ w.if-changes.false) w.said-answer.ensures in
          turn going c.loop-record-test.true (rw (w.last-is, same, w.answer-is) played) counted
    ]

pub returns : goal.returns
returns c =
    let kept = c.appended-self.ensures in
    let chunks = c.as_chunks.ensures in
    let part_is = ap (λ n. take n c.appended-self.result) (sym (zero-add _)) ∙ kept.joined in
    ends refl c.loop-record.invariant c.loop-record-test.false chunks.front chunks.back chunks.back_len refl kept.as_long part_is
