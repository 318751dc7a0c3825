-- `is_possible` is exact: each of its tests is.
use mathlib.Core.Bool.{Bool, beq}
use Rattle.lists.specs.Tests.{Whether, holds, fails}
use Rattle.lists.proofs.Tests.{is_map, is_and, is_leb, is_eqb}
use Rattle.recording.specs.Blocks.{Possible}
use Rattle.replays.specs.Replays.{numbers_of}
use Rattle.replays.proofs.Tally.is_possible.Goals as goal

-- Two tests agree.
is_same : {P Q : Type 0} {a b : Bool} → Whether P a → Whether Q b → Whether ((P → Q) × (Q → P)) (beq a b)
is_same (holds p) (holds q) = holds (λ _. q, λ _. p)
is_same (holds p) (fails g) = fails (λ x. g (x.0 p))
is_same (fails f) (holds q) = fails (λ x. f (x.1 q))
is_same (fails f) (fails g) = holds (λ p. absurd (f p), λ q. absurd (g q))

pub returns : goal.returns
returns c =
    let n = c.args.self in
    is_map
    (λ p. record { differ_within = p.0.0; first_within = p.0.1; none_differs = p.1.0; some_differs = p.1.1 })
    (λ (p : Possible (numbers_of n)). ((p.differ_within, p.first_within), (p.none_differs, p.some_differs)))
    (is_and (is_and (is_leb n.differ n.records) (is_leb n.first n.records)) (is_same (is_eqb n.differ 0) (is_eqb n.first 0)))
