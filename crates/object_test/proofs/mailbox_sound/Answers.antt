-- `mailbox_sound` is exact: its tests are, and they say what `MailboxSound` says of a defined mailbox, and of an undefined one.
use mathlib.Core.Path.{ap}
use mathlib.Core.Bool.{not}
use borrow.Author.Rules.{rules}
use Rattle.lists.proofs.Tests.{is_and, is_or, is_eqb}
use Rattle.parts.proofs.Stops.{stops, goes_on}
use Rattle.object_test.proofs.Mailboxes.{defined_mailbox, undefined_mailbox}
use Rattle.object_test.proofs.mailbox_sound.Goals as goal

pub returns-then-not-mailbox_numbers_sound : goal.returns-then-not-mailbox_numbers_sound
returns-then-not-mailbox_numbers_sound c =
    defined_mailbox c.args.mailbox c.requires c.first-waiter.ensures c.first-message.ensures c.if-mailbox-eq1.true
    (stops c.mailbox_numbers_sound.ensures (ap not c.if-not-mailbox_numbers_sound.true))

pub returns-then-not-waiter-message : goal.returns-then-not-waiter-message
returns-then-not-waiter-message c =
    defined_mailbox c.args.mailbox c.requires c.first-waiter.ensures c.first-message.ensures c.if-mailbox-eq1.true
    (goes_on c.mailbox_numbers_sound.ensures (ap not c.if-not-mailbox_numbers_sound.false) (stops (is_or (is_eqb _ _) (is_eqb _ _)) (ap not c.if-not-waiter-message.true)))

pub in_order_if-requires : goal.in_order_if-requires
in_order_if-requires c = search rules

pub returns-then-not-in_order_if : goal.returns-then-not-in_order_if
returns-then-not-in_order_if c =
    defined_mailbox c.args.mailbox c.requires c.first-waiter.ensures c.first-message.ensures c.if-mailbox-eq1.true
    (goes_on c.mailbox_numbers_sound.ensures (ap not c.if-not-mailbox_numbers_sound.false)
    (goes_on (is_or (is_eqb _ _) (is_eqb _ _)) (ap not c.if-not-waiter-message.false) (stops (rw c.ranks_waiters-by_priority.ensures at c.in_order_if.ensures) (ap not c.if-not-in_order_if.true))))

pub returns-then-mailbox-eq1 : goal.returns-then-mailbox-eq1
returns-then-mailbox-eq1 c =
    defined_mailbox c.args.mailbox c.requires c.first-waiter.ensures c.first-message.ensures c.if-mailbox-eq1.true
    (goes_on c.mailbox_numbers_sound.ensures (ap not c.if-not-mailbox_numbers_sound.false)
    (goes_on (is_or (is_eqb _ _) (is_eqb _ _)) (ap not c.if-not-waiter-message.false) (goes_on (rw c.ranks_waiters-by_priority.ensures at c.in_order_if.ensures) (ap not c.if-not-in_order_if.false) (rw c.ranks_messages-ranked.ensures at c.in_order_if-then-mailbox-eq1.ensures))))

pub returns : goal.returns
returns c =
    undefined_mailbox c.args.mailbox c.requires c.first-waiter.ensures c.first-message.ensures c.if-mailbox-eq1.false (is_and (is_and (is_eqb _ _) (is_eqb _ _)) (is_eqb _ _))
