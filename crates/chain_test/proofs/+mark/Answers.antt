-- `mark` is exact: it stops where no chain of unmarked numbers can stand, and else goes on from the next cell, with one number less to follow.
use mathlib.Core.Path.{refl}
use native.Mathlib.Omega.{arith}
use Rattle.chain_test.proofs.Marks.{mark_end, mark_met, mark_on}
use Rattle.chain_test.proofs.+mark.Goals as goal

pub returns-then-next-eq0 : goal.returns-then-next-eq0
returns-then-next-eq0 t c = mark_end c.requires refl c.if-next-eq0.true

pub returns-then-marks-next-ne0 : goal.returns-then-marks-next-ne0
returns-then-marks-next-ne0 t c = mark_met c.requires refl c.if-next-eq0.false c.if-marks-next-ne0.true

pub returns : goal.returns
returns t c =
    mark_on c.requires refl c.if-next-eq0.false c.if-numbers-next.false c.if-marks-next-ne0.false
    (let b = c.if-left-eq0.false in omega arith) c.mark.ensures
