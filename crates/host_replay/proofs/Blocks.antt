-- A block on the replay that a host's record holds, written back where it is taken, is a block on the record.
use mathlib.Core.Path.{◌≡◌, refl, sym, ◌∙◌, subst}
use mathlib.Core.List.{List}
use Prim.Native.Nat.{ℕ}
use lib.Dec.{T}
use Rattle.std.specs.Prelude.{Result, Ok, Err, is_ok}
use Rattle.model.specs.declared.Code.{Code}
use Rattle.recording.specs.Blocks.{Replaying}
use Rattle.replays.specs.declared.Replay.{Replay}
use Rattle.replays.specs.Replays.{SoundReplay, AfterBytes, TakesBlock}
use Rattle.host_record.proofs.Tables.{read_back}
use Rattle.host_replay.specs.declared.HostReplay.{HostReplay}
use Rattle.host_replay.specs.Replay.{replay_of, stored, BlockFed}

-- A replay that is written back is read again.
again : (lent : HostReplay) → SoundReplay (replay_of lent) → {r : Replay} → SoundReplay r → replay_of (stored lent r) ≡ r
unfolding replay_of stored
again lent L {r} S = λ i. record { state = read_back lent.kernel L.sound S.sound i; tally = r.tally; part = r.part; length = r.length }

after_bytes : {x : Replaying} {block : List ℕ} {r u : Replay} → u ≡ r → AfterBytes x block r → AfterBytes x block u
after_bytes {x} {block} e f = subst (AfterBytes x block) (sym e) f

abbrev fed : Result (Unit {0}) Code
fed = Ok tt

not_refused : {code : Code} → fed ≡ Err code → ⊥
not_refused e = subst (λ (x : Result (Unit {0}) Code). T (is_ok x)) e tt

pub taken : (lent : HostReplay) {block : List ℕ} {after : Replay} {r : Result (Unit {0}) Code} → TakesBlock (replay_of lent) block after r → r ≡ fed
    → BlockFed lent block (stored lent after) fed
taken lent t ok = record {
  unsound = λ f. absurd (not_refused (sym ok ∙ (t.unsound f).0));
  too_many = λ S many. absurd (not_refused (sym ok ∙ (t.too_many S many).0));
  otherwise = λ S few. let f = (t.otherwise S few).1 in (refl, after_bytes (again lent S f.sound) f);
}
