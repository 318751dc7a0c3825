-- `is_sound` is exact: each of its three tests is.
use mathlib.Core.Path.{◌≡◌}
use native.Mathlib.Omega.{arith}
use lib.ListN.{length}
use borrow.Author.Rules.{rules}
use Rattle.lists.proofs.Tests.{is_map, is_and, is_ltb}
use Rattle.replays.proofs.Replay.is_sound.Goals as goal

pub returns : goal.returns
returns c =
    let replay = c.args.self.now in
    let size : length replay.part ≡ 32 = search rules in
    is_map
    (λ p. record { sound = p.1; part_within = let h = p.0.0 in omega arith; part_size = size; possible = p.0.1 })
    (λ S. ((let h = S.part_within in omega arith, S.possible), S.sound))
    (is_and (is_and (is_ltb replay.length 32) c.is_possible.ensures) c.sound.ensures)
