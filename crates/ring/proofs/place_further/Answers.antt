-- `ring::place_further` gives the place that is n further: by the laws of steps before the end and past it.
use native.Mathlib.Omega.{arith}
use Rattle.ring.proofs.Places.{further_before_end, further_past_end}
use Rattle.ring.proofs.place_further.Goals as goal

pub returns-then-n-to_end : goal.returns-then-n-to_end
returns-then-n-to_end c =
    let a = c.args in
    omega (arith, further_before_end a.size a.place a.n (omega arith))

pub returns : goal.returns
returns c =
    let a = c.args in
    omega (arith, further_past_end a.size a.place a.n (omega arith) (omega arith) (omega arith))
