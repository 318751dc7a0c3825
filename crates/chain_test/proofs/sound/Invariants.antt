-- `sound` is exact. The invariant: the chains passed are chains, and the marks say which number stands in which of them. The chains left get fewer.
use Prim.Native.Nat.{◌+◌, ◌-◌, ◌<◌, ◌≤◌}
use Rattle.chain_test.proofs.Marks.{MarkedBelow}
use Rattle.chain_test.proofs.sound.Given as goal

abbrev pub invariant-loop-chain : goal.invariant-loop-chain
invariant-loop-chain l = (0 < l.chain) × (l.chain ≤ l.chains + 1) × MarkedBelow l.numbers l.chain l.table.link l.standing

abbrev pub decreases-loop-chain : goal.decreases-loop-chain
decreases-loop-chain l = l.chains + 1 - l.chain
