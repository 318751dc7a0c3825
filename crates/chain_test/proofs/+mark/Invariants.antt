-- One number less is left to follow.
use Rattle.chain_test.proofs.+mark.Given as goal

abbrev pub decreases-mark : goal.decreases-mark
decreases-mark l = l.left
