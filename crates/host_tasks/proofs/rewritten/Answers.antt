-- `rewritten` goes by whether the numbers read as the task already.
use Rattle.host_tasks.proofs.Rewriting.{by_eq, kept_numbers, new_numbers}
use Rattle.host_tasks.proofs.rewritten.Goals as goal

pub returns-then-eq : goal.returns-then-eq
returns-then-eq c = kept_numbers _ _ c.from-new.ensures c.from.ensures c.from-old.ensures (by_eq c.from-new.result c.from-old.result c.eq.ensures) c.if-eq.true

pub returns-else-eq : goal.returns-else-eq
returns-else-eq c = new_numbers _ _ c.from-new.ensures c.from.ensures c.from-old.ensures (by_eq c.from-new.result c.from-old.result c.eq.ensures) c.if-eq.false
