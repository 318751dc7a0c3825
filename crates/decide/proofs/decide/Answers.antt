-- `decide` goes by the error table, then by what the call names.
use Rattle.decide.proofs.Any.{ticks, refuses, is_taken}
use Rattle.decide.proofs.decide.Goals as goal

pub returns-then-call-eq0 : goal.returns-then-call-eq0
returns-then-call-eq0 c m s = ticks _ s c.if-call-eq0.true

pub returns-in-Err : goal.returns-in-Err
returns-in-Err c m s = refuses _ s _ (c.in-Err.ensures _ s.shows) c.if-call-eq0.false

pub returns-then-names_queue : goal.returns-then-names_queue
returns-then-names_queue c m s = c.on_queue.ensures m (is_taken _ s (c.in_default.ensures _ s.shows))

pub returns-then-names_mailbox : goal.returns-then-names_mailbox
returns-then-names_mailbox c m s = c.on_mailbox.ensures m (is_taken _ s (c.in_default.ensures _ s.shows))

pub returns : goal.returns
returns c m s = c.on_task.ensures m (is_taken _ s (c.in_default.ensures _ s.shows))
