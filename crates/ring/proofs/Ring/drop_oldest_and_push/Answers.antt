-- `ring::Ring::drop_oldest_and_push` replaces the oldest word: by what `pop` and `push` ensure. Once a word is taken out there is room for another.
use mathlib.Core.Path.{ap}
use borrow.Author.Rules.{rules}
use native.Mathlib.Omega.{arith}
use lib.ListN.{length}
use Rattle.ring.proofs.Stored.{length_stored}
use Rattle.ring.proofs.Ring.drop_oldest_and_push.Goals as goal

pub push-requires : goal.push-requires
push-requires c =
    (search rules, omega (arith, length_stored c.args.self.now, ap length c.pop-oldest.ensures.words_were))
