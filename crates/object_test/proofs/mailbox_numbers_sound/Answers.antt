-- `mailbox_numbers_sound` is exact: by whether the attribute is below 2 its tests say what `MailboxNumbersSound` says.
use mathlib.Core.Logic.{inl, inr, ⊎_elim}
use native.Mathlib.Omega.{arith}
use Rattle.lists.specs.Tests.{holds}
use Rattle.lists.proofs.Tests.{is_map, is_and, is_leb}
use Rattle.object_test.proofs.mailbox_numbers_sound.Goals as goal

pub returns-then-attribute-lt2 : goal.returns-then-attribute-lt2
returns-then-attribute-lt2 c = let below = c.if-attribute-lt2.true in holds (record { attribute_in_range = omega arith; highest_in_range = inl below })

pub returns : goal.returns
returns c =
    let above = c.if-attribute-lt2.false in
    is_map
    (λ t. record { attribute_in_range = t.0.0; highest_in_range = inr (t.0.1, t.1) })
    (λ n. ⊎_elim (λ below. absurd (omega arith)) (λ h. ((n.attribute_in_range, h.0), h.1)) n.highest_in_range)
    (is_and (is_and (is_leb _ _) (is_leb _ _)) (is_leb _ _))
