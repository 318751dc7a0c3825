-- One turn of the replay is one record of the definition, and the turns make up the block.
use mathlib.Core.Path.{◌≡◌, refl, sym, ◌∙◌, ap, ap₂, subst}
use mathlib.Core.Bool.{Bool, true, false, not, ◌||◌}
use mathlib.Core.List.{List, [], ◌∷◌, ◌++◌, append_assoc}
use Prim.Native.Nat.{ℕ, zero, suc, ◌+◌, ◌-◌, ◌*◌, ◌/◌, ◌%◌, ◌<◌, ◌≤◌}
use native.Mathlib.Omega.{arith}
use lib.Dec.{T}
use lib.ListN.{length, take, drop, get_or, length-append, length-take, length-drop, take-append-drop}
use lib.Seq.{take-suc, take_all}
use borrow.Author.Tests.{ltb-false}
use Rattle.std.specs.Prelude.{Option, Some, None, IsSomeAnd}
use Rattle.std.specs.Simd.{first_chunks}
use Rattle.rows.specs.Runs.{end, answers}
use Rattle.rows.proofs.Runs.{end_append, answers_append}
use Rattle.model.specs.Sizes.{call_limit}
use Rattle.model.specs.Rows.{Model}
use Rattle.model.specs.Codes.{values}
use Rattle.model.specs.Errors.{unknown}
use Rattle.model.specs.declared.Answer.{Answer}
use Rattle.decide.specs.Decisions.{after}
use Rattle.decide.specs.Touches.{changed_by}
use Rattle.record.specs.declared.State.{State}
use Rattle.record.specs.declared.Step.{Step}
use Rattle.record.specs.Meaning.{abs}
use Rattle.record.specs.Sound.{Sound}
use Rattle.record.specs.Step.{Stepped}
use Rattle.kernel.specs.Steps.{Judged, Applied}
use Rattle.kernel.proofs.Outcomes.{stepped}
use Rattle.kernel.proofs.Arms.{nothing_done}
use Rattle.recording.specs.Recording.{recorded_call, spare_is_zero, not_run}
use Rattle.recording.specs.Replay.{first_records, whole_records, records_of, rest_of, same_values, compared, play}
use Rattle.recording.specs.Blocks.{Numbers, counted, all_counted, Possible, Replaying, fed}
use Rattle.recording.specs.Decoded.{values_of}
use Rattle.recording.proofs.Blocks.{cut_anywhere, counted_append, fed_less, fed_one, records_fed, counted_possible}
use Rattle.replays.specs.declared.Reading.{Reading}
use Rattle.replays.specs.declared.Replay.{Replay}
use Rattle.replays.specs.declared.Tally.{Tally}
use Rattle.replays.specs.Replays.{numbers_of, part_of, as_if_whole, meaning, SoundReplay, Read, ReadFrom, AfterBytes, count_limit, records_with}

-- ── One record ──

-- The state that it leaves, and whether it differs, are the definition's.
pub record Played (s : State) (bytes : List ℕ) (left : State) (differs : Bool) : Type 0 where
  pub state_is : abs left ≡ (play (abs s) bytes).state
  pub differs_is : differs ≡ (play (abs s) bytes).answer
  pub sound : Sound left

no_left : (a b : Bool) → (a || b) ≡ false → a ≡ false
no_left true b e = e
no_left false b e = refl

-- The number of a call that is run is known.
known : (bytes : List ℕ) → not_run bytes ≡ false → (recorded_call bytes).number ≤ call_limit
unfolding not_run unknown
known bytes e =
    let call = recorded_call bytes in
    ltb-false call_limit call.number (no_left _ _ (no_left _ _ (no_left _ (not (spare_is_zero bytes)) e)))

is_read : Option Reading → Bool
is_read None = false
is_read (Some x) = true

module _ {s : State} {bytes : List ℕ} {found : Option Reading} (S : Sound s) (h : ReadFrom s bytes found) where
  -- A record that isn't run.
  pub left_out : found ≡ None → Played s bytes s true
  unfolding play
  left_out none = go (not_run bytes) refl
    where
      go : (b : Bool) → not_run bytes ≡ b → Played s bytes s true
      go true e = record { state_is = rw e refl; differs_is = rw e refl; sound = S }
      go false e = absurd (subst (λ o. IsSomeAnd o (Read s bytes)) none (h.run (rw e tt)))

  module _ {x : Reading} (some : found ≡ Some x) where
    played : {r : Step} → (Judged s (recorded_call bytes) x.decision → Stepped s (recorded_call bytes) r)
        → Played s bytes r.state (not (same_values (values_of x.recorded) (values r.answer)))
    unfolding play compared is_read
    played {r} does = go (not_run bytes) refl
      where
        go : (b : Bool) → not_run bytes ≡ b → Played s bytes r.state (not (same_values (values_of x.recorded) (values r.answer)))
        go true e = absurd (subst T (ap is_read (sym some ∙ h.left_out (rw e tt))) tt)
        go false e =
            let read : Read s bytes x = subst (λ o. IsSomeAnd o (Read s bytes)) some (h.run (rw e tt)) in
            let follows = (does read.judged).sound (known bytes e) S in
            record {
              state_is = rw e follows.meaning_is;
              differs_is = rw e (ap₂ (λ v a. not (same_values v (values a))) read.recorded_is follows.answer_is);
              sound = follows.sound;
            }

    -- One that changes nothing.
    pub stays : changed_by x.decision ≡ false → {answer : Answer} → (T (not (changed_by x.decision)) → (m : Model) → answer ≡ (after m x.decision).answer)
        → Played s bytes s (not (same_values (values_of x.recorded) (values answer)))
    stays n {answer} said =
        let still : T (not (changed_by x.decision)) = rw n tt in
        played {r = record { state = s; answer = answer }} (stepped (nothing_done x.decision still (ap (λ a. record { state = s; answer = a }) (said still (abs s)))))

    pub moves : {r : Step} → Applied s x.decision r → Played s bytes r.state (not (same_values (values_of x.recorded) (values r.answer)))
    moves a = played (stepped a)

-- ── The turns ──

-- How far the records have been played, from x on: i of them.
pub record Going (x : Replaying) (records : List (List ℕ)) (state : State) (tally : Tally) (i : ℕ) : Type 0 where
  pub state_is : abs state ≡ end play x.state (take i records)
  pub numbers_are : numbers_of tally ≡ all_counted x.numbers (answers play x.state (take i records))
  pub sound : Sound state
  pub possible : Possible (numbers_of tally)
  pub room : tally.records + (length records - i) ≤ count_limit

pub starts : {records : List (List ℕ)} {r : Replay} → SoundReplay r → r.tally.records + length records ≤ count_limit → Going (as_if_whole r) records r.state r.tally 0
unfolding end answers all_counted
starts {records} {r} S room = record { state_is = refl; numbers_are = refl; sound = S.sound; possible = S.possible; room = omega arith }

records_counted : (t next : Tally) (differs : Bool) → numbers_of next ≡ counted (numbers_of t) differs → next.records ≡ suc t.records
unfolding counted
records_counted t next differs e = ap (λ (n : Numbers). n.records) e

pub turn : {x : Replaying} {records : List (List ℕ)} {s left : State} {t next : Tally} {i : ℕ} {differs : Bool} → Going x records s t i → i < length records
    → Played s (get_or records i []) left differs → numbers_of next ≡ counted (numbers_of t) differs → Going x records left next (i + 1)
unfolding end answers all_counted
turn {x} {records} {s} {left} {t} {next} {i} {differs} g more p e =
    let r = get_or records i [] in
    let so_far = take i records in
    let later : take (i + 1) records ≡ so_far ++ (r ∷ []) = ap (λ n. take n records) (let one : i + 1 ≡ suc i = omega arith in one) ∙ take-suc records i [] more in
    let left_is = p.state_is ∙ ap (λ m. (play m r).state) g.state_is in
    let differs_is = p.differs_is ∙ ap (λ m. (play m r).answer) g.state_is in
    record {
      state_is = left_is ∙ sym (end_append play x.state so_far (r ∷ [])) ∙ ap (end play x.state) (sym later);
      numbers_are =
          e ∙ ap₂ counted g.numbers_are differs_is ∙ sym (counted_append x.numbers (answers play x.state so_far) (answers play (end play x.state so_far) (r ∷ [])))
          ∙ ap (all_counted x.numbers) (sym (answers_append play x.state so_far (r ∷ [])) ∙ ap (answers play x.state) (sym later));
      sound = p.sound;
      possible = subst Possible (sym e) (counted_possible differs g.possible);
      room = let one_more = records_counted t next differs e in let space = g.room in omega arith;
    }

-- The chunks of a block are its records, and what is behind them is its rest.
chunks_are : (n : ℕ) (bytes : List ℕ) → first_chunks 32 n bytes ≡ first_records n bytes
unfolding first_records
chunks_are zero bytes = refl
chunks_are (suc n) bytes = ap (λ l. take 32 bytes ∷ l) (chunks_are n (drop 32 bytes))

pub ends : {x : Replaying} {bytes rest : List ℕ} {records : List (List ℕ)} {r : Replay} {i : ℕ} → x.part ≡ [] → Going x records r.state r.tally i → length records ≤ i
    → records ≡ first_chunks 32 (length bytes / 32) bytes → rest ≡ drop (length bytes / 32 * 32) bytes → length rest ≡ length bytes % 32
    → r.length ≡ length rest → length r.part ≡ 32 → take r.length r.part ≡ rest → AfterBytes x bytes r
unfolding fed records_of whole_records rest_of
ends {x} {bytes} {rest} {records} {r} {i} none g all chunks behind few n size e =
    let block = ap (λ p. p ++ bytes) none in
    let played : take i records ≡ records_of (x.part ++ bytes) = take_all i records all ∙ chunks ∙ chunks_are (length bytes / 32) bytes ∙ ap records_of (sym block) in
    let places : length bytes / 32 * 32 ≡ 32 * (length bytes / 32) = omega arith in
    let kept : take r.length r.part ≡ rest_of (x.part ++ bytes) = e ∙ behind ∙ ap (λ k. drop k bytes) places ∙ ap rest_of (sym block) in
    let state_is = g.state_is ∙ ap (end play x.state) played in
    let numbers_are = g.numbers_are ∙ ap (λ l. all_counted x.numbers (answers play x.state l)) played in
    record {
      meaning_is = λ i. record { state = state_is i; numbers = numbers_are i; part = kept i };
      sound = record { sound = g.sound; part_within = omega arith; part_size = size; possible = g.possible };
    }

-- ── A block behind a part ──

-- It makes no record whole.
pub short_block : {s : Replay} {block part : List ℕ} → SoundReplay s → s.length + length block < 32 → length part ≡ 32
    → take (s.length + length block) part ≡ part_of s ++ block → AfterBytes (meaning s) block (record { state = s.state; tally = s.tally; part = part; length = s.length + length block })
short_block {s} {block} {part} S few size e =
    let long : length (part_of s ++ block) < 32 = let a = length-append (part_of s) block in let b = length-take s.length s.part in omega arith in
    record {
      meaning_is = (λ i. record { state = abs s.state; numbers = numbers_of s.tally; part = e i }) ∙ sym (fed_less (meaning s) block long);
      sound = record { sound = S.sound; part_within = omega arith; part_size = size; possible = S.possible };
    }

-- It makes the part whole: that record is played, and nothing is left of it.
pub record PartPlayed (s : Replay) (bytes : List ℕ) (r : Replay) : Type 0 where
  pub nothing_left : as_if_whole r ≡ fed (as_if_whole s) bytes
  pub one_more : r.tally.records ≡ suc s.tally.records
  pub sound : SoundReplay r

pub part_played : (s : Replay) {r : Replay} {bytes : List ℕ} → length bytes ≡ 32 → AfterBytes (as_if_whole s) bytes r → PartPlayed s bytes r
part_played s {r} {bytes} size f =
    let one = f.meaning_is ∙ fed_one (abs s.state) (numbers_of s.tally) bytes size in
    record {
      nothing_left = ap (λ (x : Replaying). record { state = x.state; numbers = x.numbers; part = [] }) one ∙ sym (fed_one (abs s.state) (numbers_of s.tally) bytes size);
      one_more = records_counted s.tally r.tally (play (abs s.state) bytes).answer (ap (λ (x : Replaying). x.numbers) one);
      sound = f.sound;
    }

-- Then the others follow.
pub joined_block : (s : Replay) {r last : Replay} {block whole : List ℕ} (n : ℕ) → whole ≡ part_of s ++ take n block → PartPlayed s whole r
    → AfterBytes (as_if_whole r) (take (length block - n) (drop n block)) last → AfterBytes (meaning s) block last
unfolding fed
joined_block s {r} {last} {block} {whole} n e p f = record {
  meaning_is =
      f.meaning_is ∙ ap (fed (as_if_whole r)) (take_all (length block - n) (drop n block) (let left = length-drop n block in omega arith))
      ∙ ap (λ x. fed x (drop n block)) p.nothing_left ∙ cut_anywhere (as_if_whole s) whole (drop n block)
      ∙ ap (λ l. fed (as_if_whole s) l) (ap (λ l. l ++ drop n block) e ∙ append_assoc (part_of s) (take n block) (drop n block) ∙ ap (λ l. part_of s ++ l) (take-append-drop n block));
  sound = f.sound;
}

-- How many records there are with a block.
pub records_with_block : (s : Replay) (block : List ℕ) → SoundReplay s → records_with s block ≡ s.tally.records + (s.length + length block) / 32
records_with_block s block S =
    let within = S.part_within in
    let size = S.part_size in
    let part = length-take s.length s.part in
    let all = length-append (part_of s) block in
    let whole : length (part_of s ++ block) / 32 ≡ (s.length + length block) / 32 = omega arith in
    records_fed (meaning s) block ∙ ap (λ n. s.tally.records + n) whole
