-- `see_mailbox` shows what a mailbox's record and its two chains say where the number is valid, and nothing elsewhere.
use mathlib.Core.Path.{◌≡◌, refl, sym, ◌∙◌}
use Rattle.parts.specs.Mailboxes.{kept_attribute}
use Rattle.record.specs.Meaning.{mailbox_at}
use Rattle.see.proofs.Laws.{kept, not_kept, no_mailbox_seen, mailbox_seen}
use Rattle.see.proofs.see_mailbox.Goals as goal
use Rattle.see.proofs.see_mailbox.Goals.{then-defined, else-defined}

pub returns-then-not-within : goal.returns-then-not-within
returns-then-not-within c = no_mailbox_seen c.args.state.now c.args.number (sym c.within.ensures ∙ c.if-not-within.true)

pub returns-then-ranked : goal.returns-then-ranked
returns-then-ranked c =
    let attribute : c.if-defined.attribute ≡ kept_attribute (mailbox_at c.args.state.now c.args.number) =
    elim c.if-defined.branch [ then-defined w ↦ kept _ _ w.if-defined.true w.attribute-is | else-defined w ↦ not_kept _ _ w.if-defined.false w.attribute-is ] in
    mailbox_seen c.args.state.now c.args.number c.requires (sym c.within.ensures ∙ c.if-not-within.false) c.first-waiter.ensures c.first-message.ensures
    attribute (rw (sym c.if-ranked.ensures) refl)

pub returns-else-ranked : goal.returns-else-ranked
returns-else-ranked c =
    let attribute : c.if-defined.attribute ≡ kept_attribute (mailbox_at c.args.state.now c.args.number) =
    elim c.if-defined.branch [ then-defined w ↦ kept _ _ w.if-defined.true w.attribute-is | else-defined w ↦ not_kept _ _ w.if-defined.false w.attribute-is ] in
    mailbox_seen c.args.state.now c.args.number c.requires (sym c.within.ensures ∙ c.if-not-within.false) c.first-waiter.ensures c.first-message.ensures
    attribute (rw (sym c.if-ranked.ensures) refl)
