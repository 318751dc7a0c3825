-- `tick` goes from task to task. The loop keeps that what is left of the definition's program runs to what the whole runs to.
use Rattle.std.proofs.Common.{refl, sym, ◌∙◌, arith}
use Rattle.tasks.proofs.Turns.{ticking_begins, turn_passes, turn_endable, turn_ends, ticking_ends}
use Rattle.tasks.proofs.tick.Goals as goal
use Rattle.tasks.proofs.tick.Goals.{then-due, else-due}

pub loop-next-init : goal.loop-next-init
loop-next-init c = ticking_begins c.requires refl

pub end_one-requires : goal.end_one-requires
end_one-requires c =
    let h = c.loop-next-test.true in
    turn_endable c.loop-next.invariant (omega arith) (sym c.due.ensures ∙ c.if-due.true)

pub loop-next-preserved : goal.loop-next-preserved
loop-next-preserved c =
    let i = c.loop-next.invariant in
    let h = c.loop-next-test.true in
    let test = c.due.ensures in
    elim c.if-due.branch [
      | then-due w ↦ rw (w.state-is, w.count-is) (turn_ends i (omega arith) (sym test ∙ w.if-due.true) w.end_one.ensures)
      | else-due w ↦ rw (w.state-is, w.count-is) (turn_passes i (omega arith) (sym test ∙ w.if-due.false))
    ]

pub returns : goal.returns
returns c =
    let h = c.loop-next-test.false in
    ticking_ends refl c.loop-next.invariant (omega arith) c.finished-answer.ensures
