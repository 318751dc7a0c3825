-- `ring::Ring::new` gives an empty ring: it counts no word.
use borrow.Author.Rules.{rules}
use native.Mathlib.Omega.{arith}
use Rattle.ring.proofs.Stored.{stored_none}
use Rattle.ring.proofs.Ring.new.Goals as goal

pub returns : goal.returns
returns c = record { words_are = stored_none _ (omega arith); kept = search rules }
