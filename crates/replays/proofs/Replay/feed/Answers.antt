-- `feed` goes by the replay state, then by the records that it would come to.
use mathlib.Core.Path.{refl, sym, ap, ◌∙◌}
use mathlib.Core.Bool.{not}
use mathlib.Core.List.{List}
use Prim.Native.Nat.{ℕ, ◌+◌, ◌/◌, ◌<◌, ◌≤◌}
use native.Mathlib.Omega.{arith}
use lib.ListN.{length}
use borrow.Author.Tests.{ltb-true, ltb-false}
use Rattle.lists.proofs.Tests.{went_on}
use Rattle.replays.specs.declared.Replay.{Replay}
use Rattle.replays.specs.Replays.{count_limit}
use Rattle.replays.proofs.Turns.{records_with_block}
use Rattle.replays.proofs.Replay.feed.Goals as goal

abbrev records_after : Replay → List ℕ → ℕ
records_after s block = s.tally.records + (s.length + length block) / 32

pub returns-then-would_pass : goal.returns-then-would_pass
returns-then-would_pass c =
    let replay = c.args.self.now in
    let block = c.args.block.now in
    let S = went_on c.is_sound.ensures (ap not c.if-not-is_sound.false) in
    let above : count_limit < records_after replay block = ltb-true _ _ (sym (c.would_pass.ensures S.part_within) ∙ c.if-would_pass.true) in
    let counts = records_with_block replay block S in
    record { unsound = λ f. absurd (f S); too_many = λ _ h. (refl, refl); otherwise = λ _ h. absurd (omega arith) }

pub take-requires-clause-sound_replay : goal.take-requires-clause-sound_replay
take-requires-clause-sound_replay c = went_on c.is_sound.ensures (ap not c.if-not-is_sound.false)

pub returns : goal.returns
returns c =
    let replay = c.args.self.now in
    let block = c.args.block.now in
    let S = went_on c.is_sound.ensures (ap not c.if-not-is_sound.false) in
    let within : records_after replay block ≤ count_limit = ltb-false _ _ (sym (c.would_pass.ensures S.part_within) ∙ c.if-would_pass.false) in
    let counts = records_with_block replay block S in
    record { unsound = λ f. absurd (f S); too_many = λ _ h. absurd (omega arith); otherwise = λ _ h. (refl, c.take.ensures) }
