-- `see_message` says whether a message stands in no chain: a number that isn't valid stands in none.
use mathlib.Core.Path.{sym, ◌∙◌}
use Rattle.record.specs.Meaning.{mailbox_of}
use Rattle.see.proofs.Laws.{message_seen}
use Rattle.see.proofs.see_message.Goals as goal

pub returns : goal.returns
unfolding mailbox_of
returns c = message_seen c.args.state.now c.args.number (sym c.within.ensures ∙ c.if-not-within.false) c.chain_of.ensures.chain_is
