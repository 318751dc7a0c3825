-- `write_all` writes one task after the other: the loop keeps what has been written.
use Rattle.host_record.proofs.Writing.{SoFar}
use Rattle.host_record.proofs.write_all.Given as goal

abbrev pub invariant-loop-t : goal.invariant-loop-t
invariant-loop-t l = SoFar l.initial.numbers l.tasks l.numbers l.t
