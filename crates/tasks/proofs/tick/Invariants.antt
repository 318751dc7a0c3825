-- `tick` goes from task to task. The loop keeps that what is left of the definition's program runs to what the whole runs to.
use Rattle.tasks.proofs.Turns.{Ticking}
use Rattle.tasks.proofs.tick.Given as goal

abbrev pub invariant-loop-next : goal.invariant-loop-next
invariant-loop-next l = Ticking l.counter l.initial.state l.state l.count l.next
