-- A table whose cells all hold 0 has only empty chains: every cell ends its chain.
use mathlib.Core.Path.{◌≡◌, refl}
use mathlib.Core.List.Memᴰ
use mathlib.Core.List.{List, []}
use Prim.Native.Nat.{ℕ, suc, ◌+◌, ◌<◌}
use lib.ListN.{replicate, length-replicate}
use Rattle.lists.proofs.Reading.{all_same}
use Rattle.chain.specs.Table.{cells, key_cells, lists, ends, Holds, Sound}
use Rattle.chain.proofs.Table.{lists_are}

module _ (n c : ℕ) (k : n < key_cells) (h : n + c < cells) where
  new_holds : Holds n c (replicate cells 0) (replicate (suc c) [])
  new_holds = record {
    room = record { cells_count = refl; keys_fit = k; heads_fit = h };
    count = length-replicate (suc c) [];
    none = refl;
    chain = λ j lo hi. rw (all_same {X = List ℕ} [] (suc c) j) (ends (all_same 0 cells (n + j)));
    apart = λ {j} a b. absurd (Memᴰ.not-nil (rw (all_same {X = List ℕ} [] (suc c) j) at a));
  }

  pub new_lists : lists n c (replicate cells 0) ≡ replicate (suc c) []
  new_lists = lists_are new_holds

  pub new_sound : Sound n c (replicate cells 0)
  new_sound = rw new_lists new_holds
