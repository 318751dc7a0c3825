-- All waits of a chain end with E_DLT, from its head on: what a loop of pops keeps, and what it leaves. By the laws of waits that end.
use mathlib.Core.Path.{◌≡◌, refl, sym, ◌∙◌}
use mathlib.Core.Bool.{not}
use mathlib.Core.List.{List, head_d, Memᴰ as In}
use mathlib.Core.Logic.{◌≢◌}
use Prim.Native.Nat.{ℕ, ◌<◌}
use native.Mathlib.Omega.{arith}
use lib.Dec.{T}
use lib.ListN.{length}
use Rattle.lists.specs.Lists.{empty, ahead}
use Rattle.lists.proofs.Stands.{in_head, without_head}
use Rattle.chain.specs.Changes.{Popped, Removed}
use Rattle.chain.proofs.Standing.{stands_in}
use Rattle.model.specs.Sizes.{task_limit}
use Rattle.model.specs.Waits.{WaitQueue}
use Rattle.model.specs.declared.Code.TheVariants.{Dlt as E_DLT}
use Rattle.parts.specs.Chains.{task_chains, wait_chain}
use Rattle.parts.specs.Tasks.{read_code, with_wait_ended}
use Rattle.parts.specs.declared.Task.{Task}
use Rattle.record.specs.declared.State.{State}
use Rattle.record.specs.Meaning.{task_at}
use Rattle.record.proofs.Laws.{with_task, with_waiting}
use Rattle.waits.specs.Waiting.{chain_list, ChainOf, Endable, Ended, Clearable, Cleared}
use Rattle.waits.proofs.Laws.{some_head}
use Rattle.waits.proofs.Ends.{Ending, endable_range, ended_all, head_endable, still_clearable, ending_on, shorter, ending_done}

-- s₀ is the record before the loop, s the record now.
pub record Clearing (chain : ℕ) (s₀ s : State) : Type 0 where
  pub clearable : Clearable s chain E_DLT
  pub so_far : (k : WaitQueue) → ChainOf k chain → Ending k E_DLT s₀ s

pub clearing_done : {chain first : ℕ} {s₀ s : State} → Clearing chain s₀ s → first ≡ head_d (chain_list s chain) 0 → first ≡ 0
    → (k : WaitQueue) → ChainOf k chain → Cleared k E_DLT s₀ s
clearing_done i first_is none k o = ending_done i.clearable.on first_is none k o (i.so_far k o)

-- A turn of the loop: the head is popped, and its wait ends.
module _ {chain : ℕ} {s₀ s : State} (i : Clearing chain s₀ s)
    {first : ℕ} (first_is : first ≡ head_d (chain_list s chain) 0) (someone : first ≢ 0) {link : List ℕ} {t : ℕ}
    (p : Popped task_limit task_chains chain s.waiting.link link t) where
  not_none : T (not (empty (chain_list s chain)))
  not_none = some_head (chain_list s chain) first_is someone

  not_zero : t ≢ 0
  not_zero e = someone (first_is ∙ (sym p.first_is ∙ e))

  popped_endable : Endable s t
  popped_endable = head_endable i.clearable p.first_is not_zero

  -- Its cells lie in their array.
  pub popped_fits : t < 33
  popped_fits = let r = (endable_range popped_endable).1 in omega arith

  -- Its wait names the chain.
  chain_is : wait_chain (task_at s t).wait ≡ chain
  chain_is =
      let here : In t (chain_list s chain) = rw p.first_is (in_head (chain_list s chain) not_none) in
      sym popped_endable.stands ∙ stands_in i.clearable.on.sound.readable.waiting chain here

  removed : Removed task_limit task_chains (wait_chain (task_at s t).wait) t s.waiting.link link (ahead t (chain_list s chain))
  removed = rw chain_is (record { place_is = refl; changed = rw (p.first_is, without_head (chain_list s chain) not_none) p.changed })

  module _ {y : Task} (e : y ≡ with_wait_ended 51 0 (task_at s t)) where
    abbrev after : State
    after = with_task t y (with_waiting link s)

    popped_ended : Ended s t E_DLT after
    unfolding read_code
    popped_ended = ended_all popped_endable removed E_DLT 51 refl y e

    pub clearing_on : Clearing chain s₀ after
    clearing_on = record {
      clearable = still_clearable i.clearable p.first_is not_zero popped_ended;
      so_far = λ k o. ending_on i.clearable p.first_is not_zero popped_ended k o (i.so_far k o);
    }

    pub clearing_ends : length (chain_list after chain) < length (chain_list s chain)
    clearing_ends = shorter i.clearable p.first_is not_zero popped_ended
