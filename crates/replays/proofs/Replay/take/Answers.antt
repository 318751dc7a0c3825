-- `take` goes by whether there is a part, and whether the block makes it whole.
use mathlib.Core.Path.{◌≡◌}
use Prim.Native.Nat.{◌+◌, ◌-◌}
use native.Mathlib.Omega.{arith}
use lib.ListN.{length, take, drop, length-take, length-drop}
use lib.Seq.{length-take-le}
use borrow.Author.Rules.{rules}
use Rattle.replays.proofs.Parts.{whole_part}
use Rattle.replays.proofs.Turns.{short_block, part_played, joined_block}
use Rattle.replays.proofs.Replay.take.Goals as goal

pub returns-then-block-missing : goal.returns-then-block-missing
returns-then-block-missing c =
    let kept = c.appended-self.ensures in
    short_block c.requires.sound_replay (search rules) kept.as_long kept.joined

pub play-requires-3-clause-within_limit : goal.play-requires-3-clause-within_limit
play-requires-3-clause-within_limit c =
    let args = c.args in
    let missing = 32 - args.self.now.length in
    let played = part_played args.self.now c.appended-part.ensures.as_long c.play-2.ensures in
    let one_more = played.one_more in
    let size = length-take (length args.block.now - missing) (drop missing args.block.now) in
    let left = length-drop missing args.block.now in
    search rules

pub returns : goal.returns
returns c =
    let block = c.args.block.now in
    let replay = c.args.self.now in
    let missing = 32 - replay.length in
    let joined = c.appended-part.ensures in
    let enough = c.if-block-missing.false in
    let taken = length-take-le missing block (omega arith) in
    let within = c.requires.sound_replay.part_within in
    let full : replay.length + length (take missing block) ≡ 32 = omega arith in
    joined_block replay missing (whole_part _ joined.as_long full joined.joined) (part_played replay joined.as_long c.play-2.ensures) c.play-3.ensures
