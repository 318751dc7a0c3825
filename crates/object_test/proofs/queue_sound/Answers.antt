-- `queue_sound` is exact: its tests are, and they say what `QueueSound` says of a defined queue, and of an undefined one.
use mathlib.Core.Bool.{not}
use mathlib.Core.Path.{ap, ◌∙◌}
use borrow.Author.Rules.{rules}
use Rattle.lists.proofs.Tests.{is_and, is_leb, is_eqb}
use Rattle.ring.proofs.Stored.{length_stored}
use Rattle.parts.proofs.Stops.{stops, goes_on}
use Rattle.object_test.proofs.Queues.{defined_queue, undefined_queue}
use Rattle.object_test.proofs.queue_sound.Goals as goal

pub returns-then-not-attribute-in_range : goal.returns-then-not-attribute-in_range
returns-then-not-attribute-in_range c =
    defined_queue c.args.queue c.requires c.first-sender.ensures c.first-receiver.ensures c.if-queue-eq1.true
    (stops (is_and (is_leb _ _) c.in_range.ensures) (ap not c.if-not-attribute-in_range.true))

pub returns-then-not-may_wait : goal.returns-then-not-may_wait
returns-then-not-may_wait c =
    let waits = rw (c.length-count.ensures ∙ length_stored _, c.capacity.ensures) at c.may_wait.ensures in
    defined_queue c.args.queue c.requires c.first-sender.ensures c.first-receiver.ensures c.if-queue-eq1.true
    (goes_on (is_and (is_leb _ _) c.in_range.ensures) (ap not c.if-not-attribute-in_range.false) (stops waits (ap not c.if-not-may_wait.true)))

pub in_order_if-requires : goal.in_order_if-requires
in_order_if-requires c = search rules

pub returns-then-queue-eq1 : goal.returns-then-queue-eq1
returns-then-queue-eq1 c =
    let waits = rw (c.length-count.ensures ∙ length_stored _, c.capacity.ensures) at c.may_wait.ensures in
    defined_queue c.args.queue c.requires c.first-sender.ensures c.first-receiver.ensures c.if-queue-eq1.true
    (goes_on (is_and (is_leb _ _) c.in_range.ensures) (ap not c.if-not-attribute-in_range.false) (goes_on waits (ap not c.if-not-may_wait.false) c.in_order_if.ensures))

pub returns : goal.returns
returns c =
    rw (c.length-count.ensures ∙ length_stored _)
    (undefined_queue c.args.queue c.requires c.first-sender.ensures c.first-receiver.ensures c.if-queue-eq1.false
    (is_and (is_and (is_and (is_eqb _ _) (is_eqb _ _)) (is_eqb _ _)) (is_eqb _ _)))
