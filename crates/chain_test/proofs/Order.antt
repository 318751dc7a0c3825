-- What the test of order finds at each step along a chain: by reading the cell that it has come to.
use mathlib.Core.Path.{◌≡◌}
use mathlib.Core.Bool.{Bool, true, false}
use mathlib.Core.List.{List}
use mathlib.Core.Logic.{◌≢◌}
use Prim.Native.Nat.{ℕ, ◌<◌, ◌≤◌}
use native.Mathlib.Omega.{arith}
use lib.ListN.{get_or}
use Rattle.lists.specs.Lists.{InOrder, no_key, next_key}
use Rattle.lists.specs.Tests.{Whether, holds, fails}
use Rattle.lists.proofs.Tests.{is_map}
use Rattle.lists.proofs.Order.{in_order_least, in_order_most, in_order_rest}
use Rattle.chain.specs.Table.{follow, keys_of}
use Rattle.chain.specs.Walks.{Walk}
use Rattle.chain.proofs.Walks.{stops, splits}

module _ {n cell : ℕ} {s : List ℕ} (w : Walk n cell s) {next : ℕ} (e : get_or s cell 0 ≡ next) (key : List ℕ) (least most : ℕ) where
  pub order_end : next ≡ 0 → Whether (InOrder least most (keys_of key (follow n s cell))) true
  unfolding keys_of
  order_end z = rw (stops w e z) (holds no_key)

  module _ (f : next ≢ 0) where
    pub order_low : get_or key next 0 < least → Whether (InOrder least most (keys_of key (follow n s cell))) false
    unfolding keys_of
    order_low h = rw (splits w e f) (fails (λ o. let b = in_order_least o in omega arith))

    pub order_high : most < get_or key next 0 → Whether (InOrder least most (keys_of key (follow n s cell))) false
    unfolding keys_of
    order_high h = rw (splits w e f) (fails (λ o. let b = in_order_most o in omega arith))

    pub order_on : {answer : Bool} → least ≤ get_or key next 0 → get_or key next 0 ≤ most
        → Whether (InOrder (get_or key next 0) most (keys_of key (follow n s next))) answer → Whether (InOrder least most (keys_of key (follow n s cell))) answer
    unfolding keys_of
    order_on a b i = rw (splits w e f) (is_map (λ o. next_key a b o) in_order_rest i)
