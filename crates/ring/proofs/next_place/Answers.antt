-- `ring::next_place` gives the place that is one further: by the laws of a step before the end and past it.
use native.Mathlib.Omega.{arith}
use Rattle.ring.proofs.Places.{further_before_end, further_past_end}
use Rattle.ring.proofs.next_place.Goals as goal

pub returns-then-place-last : goal.returns-then-place-last
returns-then-place-last c =
    let a = c.args in
    omega (arith, further_before_end a.size a.place 1 (omega arith))

pub returns : goal.returns
returns c =
    let a = c.args in
    omega (arith, further_past_end a.size a.place 1 (omega arith) (omega arith) (omega arith))
