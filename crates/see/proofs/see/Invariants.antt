-- `see` is exact: the first loop keeps that the tasks passed are sound, the second that the objects passed are.
use Rattle.record.proofs.Parts.{TaskAt}
use Rattle.record.proofs.Testing.{Below, Walked, Marked}
use Rattle.see.specs.Shown.{ObjectsSound}
use Rattle.see.proofs.see.Given as goal

abbrev pub invariant-loop-t : goal.invariant-loop-t
invariant-loop-t l = Walked l.state × Marked l.state l.standing × Below (TaskAt l.state) l.t

abbrev pub invariant-loop-n : goal.invariant-loop-n
invariant-loop-n l = Walked l.state × Below (TaskAt l.state) 33 × Below (ObjectsSound l.state) l.n
