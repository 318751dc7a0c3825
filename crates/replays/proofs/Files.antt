-- Blocks in a row are one file: by induction on the blocks.
use mathlib.Core.Path.{◌≡◌, refl, sym, ◌∙◌, ap, subst}
use mathlib.Core.List.{List, [], ◌++◌, flatten}
use Prim.Native.Nat.{ℕ, ◌/◌, ◌≤◌}
use native.Mathlib.Omega.{arith}
use lib.ListN.{length, length-append, replicate}
use Rattle.lists.specs.Lists.{Each, none, both}
use Rattle.rows.specs.Runs.{Run, no_call, one_call}
use Rattle.model.specs.declared.Code.{Code}
use Rattle.model.specs.declared.Code.TheVariants.{Ok as E_OK}
use Rattle.record.specs.declared.State.{State}
use Rattle.record.specs.Meaning.{abs}
use Rattle.record.specs.Sound.{Sound}
use Rattle.recording.specs.Replay.{records_of, start, Line, line}
use Rattle.recording.specs.Blocks.{Replaying, begun, fed, all_fed, line_of}
use Rattle.recording.proofs.Blocks.{cut_anywhere, as_whole_file, as_whole_files, records_fed}
use Rattle.replays.specs.declared.Replay.{Replay}
use Rattle.replays.specs.Replays.{no_records, meaning, SoundReplay, count_limit, TakesBlockAs}
use Rattle.replays.specs.Files.{New, EveryFile}

-- The empty state with nothing counted.
pub new_replay : {s : State} → Sound s → abs s ≡ start → New (record { state = s; tally = no_records; part = replicate 32 0; length = 0 })
new_replay S e = record {
  sound = record { sound = S; part_within = omega arith; part_size = refl; possible = record { differ_within = omega arith; first_within = omega arith; none_differs = λ z. refl; some_differs = λ z. refl } };
  meaning_is = ap (λ m. record { state = m; numbers = begun.numbers; part = [] }) e;
}

-- More bytes make no fewer records.
more_bytes : (x : Replaying) (earlier later : List ℕ) → (fed x (earlier ++ later)).numbers.records ≤ count_limit → (fed x earlier).numbers.records ≤ count_limit
more_bytes x earlier later h =
    let few = records_fed x earlier in
    let all = records_fed x (earlier ++ later) in
    let a = length-append x.part earlier in
    let b = length-append x.part (earlier ++ later) in
    let c = length-append earlier later in
    let fewer : length (x.part ++ earlier) / 32 ≤ length (x.part ++ (earlier ++ later)) / 32 = omega arith in
    omega arith

module _ {X K : Type 0} (held : X → Replay) (told : Code → K) where
  -- What a list of blocks leaves of a sound replay.
  record AllTaken (s : X) (blocks : List (List ℕ)) (last : X) (codes : List K) : Type 0 where
    taken : Each (λ c. c ≡ told E_OK) codes
    meaning_is : meaning (held last) ≡ all_fed (meaning (held s)) blocks
    sound : SoundReplay (held last)

  all_taken : {s last : X} {blocks : List (List ℕ)} {codes : List K} → SoundReplay (held s) → Run (TakesBlockAs held told) s blocks last codes
      → (fed (meaning (held s)) (flatten blocks)).numbers.records ≤ count_limit → AllTaken s blocks last codes
  unfolding flatten all_fed
  all_taken S no_call h = record { taken = none; meaning_is = refl; sound = S }
  all_taken {s} S (one_call {c = block} {calls = blocks} t more) h =
      let (ok, f) = t.otherwise S (more_bytes (meaning (held s)) block (flatten blocks) h) in
      let cut = ap (λ x. fed x (flatten blocks)) f.meaning_is ∙ cut_anywhere (meaning (held s)) block (flatten blocks) in
      let follows = all_taken f.sound more (subst (λ (x : Replaying). x.numbers.records ≤ count_limit) (sym cut) h) in
      record { taken = both ok follows.taken; meaning_is = follows.meaning_is ∙ ap (λ x. all_fed x blocks) f.meaning_is; sound = follows.sound }

  -- A new replay after all bytes has as many records as the file.
  few : (blocks : List (List ℕ)) {x : Replaying} → x ≡ begun → length (records_of (flatten blocks)) ≤ count_limit → (fed x (flatten blocks)).numbers.records ≤ count_limit
  unfolding line
  few blocks new h = let counts = ap (λ x. (fed x (flatten blocks)).numbers.records) new ∙ ap (λ (l : Line). l.records) (as_whole_file (flatten blocks)).line_is in omega arith

  pub every_file : EveryFile held told
  every_file first last blocks codes code l new run ends h =
      let follows = all_taken new.sound run (few blocks new.meaning_is h) in
      let end = follows.meaning_is ∙ ap (λ x. all_fed x blocks) new.meaning_is in
      let whole = as_whole_files blocks in
      let (code_is, line_is) = ends.otherwise follows.sound in (
        follows.taken,
        record {
          code_is = code_is;
          line_is = line_is ∙ ap line_of end ∙ whole.line_is;
          state_is = ap (λ (x : Replaying). x.state) end ∙ whole.state_is;
          sound = follows.sound;
        },
      )
