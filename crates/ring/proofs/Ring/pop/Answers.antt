-- `ring::Ring::pop` takes the oldest word out: by the law of a popped word. The count isn't 0, since it is the number of stored words.
use borrow.Author.Rules.{rules}
use native.Mathlib.Omega.{arith}
use Rattle.ring.proofs.Stored.{length_stored, popped}
use Rattle.ring.proofs.Ring.pop.Goals as goal

pub overflow_sub-self : goal.overflow_sub-self
overflow_sub-self c = omega (arith, length_stored c.args.self.now)

pub returns : goal.returns
returns c =
    let b = c in
    popped b.requires.0 (omega arith) (search rules) (omega arith) (omega (arith, length_stored b.args.self.now)) (omega arith)
