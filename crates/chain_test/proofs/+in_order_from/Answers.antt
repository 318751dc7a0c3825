-- `in_order_from` is exact: the first key is compared, and the rest is the same test from the next cell. What is left of the chain gets shorter.
use mathlib.Core.Path.{refl}
use Rattle.chain.proofs.Walks.{walk_on, shorter}
use Rattle.chain_test.proofs.Order.{order_end, order_low, order_high, order_on}
use Rattle.chain_test.proofs.+in_order_from.Goals as goal

pub returns-then-next-eq0 : goal.returns-then-next-eq0
returns-then-next-eq0 t c = order_end c.requires refl _ _ _ c.if-next-eq0.true

pub returns-then-next_key-least : goal.returns-then-next_key-least
returns-then-next_key-least t c =
    order_low c.requires refl _ _ _ c.if-next-eq0.false c.if-next_key-least.true

pub returns-then-most-next_key : goal.returns-then-most-next_key
returns-then-most-next_key t c =
    order_high c.requires refl _ _ _ c.if-next-eq0.false c.if-most-next_key.true

pub in_order_from-requires : goal.in_order_from-requires
in_order_from-requires t c =
    let w = c.requires in
    (rw (← c.decreases) (shorter w refl c.if-next-eq0.false), walk_on w refl c.if-next-eq0.false)

pub returns : goal.returns
returns t c =
    order_on c.requires refl _ _ _
    c.if-next-eq0.false c.if-next_key-least.false c.if-most-next_key.false c.in_order_from.ensures
