-- `ring::Ring::push` stores the word behind the newest: by the law of a pushed word, at the place that `place_further` ensures.
use borrow.Author.Rules.{rules}
use native.Mathlib.Omega.{arith}
use Rattle.ring.specs.Ring.{places}
use Rattle.ring.proofs.Places.{further_is_place}
use Rattle.ring.proofs.Stored.{pushed}
use Rattle.ring.proofs.Ring.push.Goals as goal

pub bounds-self-at : goal.bounds-self-at
bounds-self-at c = rw c.place_further-at.ensures (further_is_place places _ _ (omega arith))

pub returns : goal.returns
returns c =
    let b = c in
    pushed c.place_further-at.result b.requires.0 b.requires.1 (search rules) (omega arith) (search rules) (omega arith) (omega arith) (omega arith)
