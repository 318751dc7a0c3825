-- The head of a wait queue is released, and a task joins one: by the chain's pop or insert, and the task's new record.
use mathlib.Core.Path.{◌≡◌, refl, sym, ap, ◌∙◌, subst}
use mathlib.Core.Bool.{Bool, true, false, cond}
use mathlib.Core.List.{List, tail, Memᴰ as In, map}
use Prim.Native.Nat.{ℕ, ◌<◌, ◌≤◌}
use lib.Dec.{T}
use lib.ListN.{length, get_or, length-map}
use Rattle.lists.specs.Lists.{insert_at}
use Rattle.lists.proofs.Stands.{in_head}
use Rattle.chain.specs.Table.{lists, chain_of, keys_of}
use Rattle.chain.specs.Changes.{Popped, Insertable, Inserted}
use Rattle.chain.proofs.Laws.{list_range, inserted_place}
use Rattle.model.specs.Sizes.{task_limit}
use Rattle.model.specs.Rows.{task, valid, TaskRow}
use Rattle.model.specs.Codes.{waits}
use Rattle.model.specs.Waits.{ended, starting, WaitQueue}
use Rattle.model.specs.WaitQueues.{place, standing_in}
use Rattle.model.specs.declared.Code.TheVariants.{Ok as E_OK}
use Rattle.model.specs.declared.Wait.{Wait}
use Rattle.model.proofs.Choices.{cond_yes}
use Rattle.model.proofs.Tests.{from_within}
use Rattle.model.proofs.WaitMoves.{defined_task}
use Rattle.parts.specs.Chains.{task_chains, wait_chain, tasks_in}
use Rattle.parts.specs.Tasks.{task_row, read_code, with_wait_ended, with_wait_started}
use Rattle.parts.specs.declared.Task.{Task}
use Rattle.record.specs.declared.State.{State}
use Rattle.record.specs.Meaning.{task_at, abs}
use Rattle.record.specs.Sound.{Sound}
use Rattle.record.specs.Step.{Becomes}
use Rattle.waits.specs.Waiting.{chain_list, ChainOf, Releasable, Released, released, place_in, joined, Joinable, Joined}
use Rattle.record.proofs.Rows.{row_is}
use Rattle.record.proofs.Standing.{stands_from}
use Rattle.record.proofs.Keys.{priorities_are}
use Rattle.record.proofs.Laws.{with_task, with_waiting}
use Rattle.waits.proofs.Laws.{rows_of, has_chain, chain_of_queue, waiter_valid, waiter_defined, ended_row, wait_changed, started_row}

-- ── The head is released ──

read_ok : read_code 0 ≡ E_OK
unfolding read_code
read_ok = refl

module _ {s : State} {chain : ℕ} (a : Releasable s chain) {link : List ℕ} {t : ℕ} (p : Popped task_limit task_chains chain s.waiting.link link t) where
  in_list : In t (chain_list s chain)
  in_list = rw p.first_is (in_head (chain_list s chain) a.someone)

  module _ (k : WaitQueue) (o : ChainOf k chain) where
    in_k : In t (standing_in (abs s).rows k)
    in_k = rw (chain_of_queue a.on k o) in_list

    released_is : (word : ℕ) (y : Task) → y ≡ with_wait_ended 0 word (task_at s t) → Becomes s (released k word (abs s).rows) (with_task t y (with_waiting link s))
    released_is word y e =
        let S = a.on.sound in
        let row : task_row (task_at s t) (get_or s.waiting.key t 0) ≡ (abs s).rows (task t) = sym (row_is s (task t) (waiter_valid S k in_k)) in
        rw (chain_of_queue a.on k o, ← p.first_is)
        (wait_changed S.readable k o.valid_object link (tail (chain_list s chain)) (rw o.chain_is p.changed) t (waiter_valid S k in_k) y _ (ap (λ (x : Task). x.suspended) e)
        (ap (λ (x : Task). task_row x (get_or s.waiting.key t 0)) e ∙ (ended_row (task_at s t) _ (waiter_defined S k in_k) 0 (read_ok) word ∙ ap (ended E_OK word) row)))

  pub head_range : (1 ≤ t) × (t ≤ task_limit)
  head_range = list_range (has_chain a.on) in_list

  pub released_all : (word : ℕ) (y : Task) → y ≡ with_wait_ended 0 word (task_at s t) → Released s chain word (with_task t y (with_waiting link s))
  released_all word y e = record { becomes = λ k o. released_is k o word y e }

-- ── A task joins ──

module _ {s : State} {chain me : ℕ} (a : Joinable s chain me) where
  abbrev S : Sound s
  S = a.on.sound

  pub me_valid : T (valid (task me))
  me_valid = defined_task (rows_of S) me a.defined

  pub me_range : (1 ≤ me) × (me ≤ task_limit)
  me_range = from_within 1 task_limit me me_valid

  me_defined : T (task_at s me).defined
  me_defined = subst (λ (x : TaskRow). T x.defined) (row_is s (task me) me_valid) a.defined

  -- It stands in no chain, since it has no wait.
  me_free : chain_of me (lists task_limit task_chains s.waiting.link) ≡ 0
  me_free = sym (stands_from s S.readable.waiting (rows_of S).waiting me me_valid) ∙ ap wait_chain (sym (ap (λ (x : TaskRow). x.wait) (row_is s (task me) me_valid)) ∙ a.able)

  pub insertable : Insertable task_limit task_chains chain me s.waiting.link s.waiting.key
  insertable =
      record { has = has_chain a.on; positive = me_range.0; in_table = me_range.1; free = me_free; keys_count = S.readable.sizes.task_keys }

  -- Its key is its priority.
  me_key : get_or s.waiting.key me 0 ≡ ((abs s).rows (task me)).priority
  me_key = sym (ap (λ (x : TaskRow). x.priority) (row_is s (task me) me_valid) ∙ cond_yes (task_at s me).defined _ _ me_defined)

  module _ {limit : ℕ} {link : List ℕ} {n : ℕ} (ranked : Bool) (limit_is : limit ≡ cond ranked (get_or s.waiting.key me 0) 255)
      (p : Inserted task_limit task_chains chain me limit s.waiting.link s.waiting.key link n) where
    pub place_fits : n < task_limit
    place_fits = inserted_place p (has_chain a.on)

    module _ (k : WaitQueue) (o : ChainOf k chain) where
      -- The keys of those that stand there are their priorities.
      keys_are : map (λ t. ((abs s).rows (task t)).priority) (standing_in (abs s).rows k) ≡ keys_of s.waiting.key (chain_list s chain)
      unfolding tasks_in
      keys_are = priorities_are s S.readable.waiting (rows_of S).tasks (rows_of S).waiting k o.valid_object ∙ ap (λ j. keys_of s.waiting.key (chain_list s j)) o.chain_is

      pub place_is : n ≡ place_in ranked me k (abs s).rows
      unfolding place
      place_is = go ranked limit_is
        where
          go : (b : Bool) → limit ≡ cond b (get_or s.waiting.key me 0) 255 → n ≡ place b ((abs s).rows (task me)).priority (map (λ t. ((abs s).rows (task t)).priority) (standing_in (abs s).rows k))
          go true e = p.place_is ∙ rw (e, me_key, keys_are) refl
          go false e = p.at_the_end e ∙ (sym (ap length (chain_of_queue a.on k o)) ∙ simp length-map)

      joined_is : (wait : Wait) (y : Task) → y ≡ with_wait_started wait (task_at s me) → Becomes s (joined ranked me k wait (abs s).rows) (with_task me y (with_waiting link s))
      joined_is wait y e =
          rw (← place_is, chain_of_queue a.on k o)
          (wait_changed S.readable k o.valid_object link (insert_at n me (chain_list s chain)) (rw o.chain_is p.changed) me me_valid y _ (ap (λ (x : Task). x.suspended) e)
          (ap (λ (x : Task). task_row x (get_or s.waiting.key me 0)) e ∙ (started_row (task_at s me) _ me_defined wait ∙ ap (starting wait) (sym (row_is s (task me) me_valid)))))

    pub joined_all : (wait : Wait) (y : Task) → y ≡ with_wait_started wait (task_at s me) → Joined s chain me ranked wait (record {
      state = with_task me y (with_waiting link s);
      answer = waits n;
    })
    joined_all wait y e = record { becomes = λ k o. joined_is k o wait y e; answer_is = λ k o. ap waits (place_is k o) }
