-- `ring::Ring::length` gives how many words are stored: by the law of their length.
use native.Mathlib.Omega.{arith}
use Rattle.ring.proofs.Stored.{length_stored}
use Rattle.ring.proofs.Ring.length.Goals as goal

pub returns : goal.returns
returns c = omega (arith, length_stored c.args.self.now)
