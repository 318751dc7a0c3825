-- `see_queue` shows what a data queue's record and its two chains say where the number is valid, and nothing elsewhere.
use mathlib.Core.Path.{◌≡◌, refl, sym, ◌∙◌}
use mathlib.Core.Bool.{cond}
use Rattle.record.specs.Meaning.{queue_at}
use Rattle.parts.specs.Queues.{is_defined}
use Rattle.see.proofs.Laws.{kept, not_kept, no_queue_seen, queue_seen}
use Rattle.see.proofs.see_queue.Goals as goal
use Rattle.see.proofs.see_queue.Goals.{then-defined, else-defined}

pub returns-then-not-within : goal.returns-then-not-within
returns-then-not-within c = no_queue_seen c.args.state.now c.args.number (sym c.within.ensures ∙ c.if-not-within.true)

pub returns : goal.returns
returns c =
    let x = queue_at c.args.state.now c.args.number in
    let pair : c.if-defined.attribute ≡ cond (is_defined x.defined) (x.attribute, x.ring.capacity) (0, 0) =
    elim c.if-defined.branch [ then-defined w ↦ kept _ _ w.if-defined.true (rw (w.attribute-is, w.capacity.ensures) refl) | else-defined w ↦ not_kept _ _ w.if-defined.false w.attribute-is ] in
    queue_seen c.args.state.now c.args.number c.requires (sym c.within.ensures ∙ c.if-not-within.false) c.first-sender.ensures c.first-receiver.ensures pair c.length.ensures
