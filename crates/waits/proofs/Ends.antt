-- A task's wait ends, at whatever place, and all waits of a wait queue end, from its head on: by the chain's removal and the task's new record.
use mathlib.Core.Path.{◌≡◌, refl, sym, ap, ◌∙◌}
use mathlib.Core.Bool.{not}
use mathlib.Core.List.{List, [], ◌∷◌, head_d, Memᴰ as In}
use mathlib.Core.Logic.{◌≢◌}
use mathlib.Core.Option.{some, none-ne-some}
use Prim.Native.Nat.{ℕ, ◌<◌, ◌≤◌}
use native.Mathlib.Omega.{arith}
use lib.Dec.{T}
use lib.ListN.{length, get_or}
use Rattle.lists.specs.Lists.{empty, without}
use Rattle.lists.proofs.Stands.{in_head, without_head}
use Rattle.rows.specs.Program.{run}
use Rattle.rows.proofs.Update.{update_same, update_other}
use Rattle.chain.specs.Changes.{Changed, Removed}
use Rattle.chain.proofs.Laws.{list_range}
use Rattle.model.specs.Sizes.{task_limit}
use Rattle.model.specs.Rows.{task, mailbox, same_key, valid, TaskRow, Effect}
use Rattle.model.specs.Codes.{waits}
use Rattle.model.specs.Waits.{able, wait_end, ended, WaitQueue, object_of, wait_queue}
use Rattle.model.specs.WaitQueues.{end_wait, end_waits, standing_in}
use Rattle.model.specs.WellFormed.{ends_a_wait, EndAhead, TaskWellFormed, WellFormedRows}
use Rattle.model.specs.declared.Code.{Code}
use Rattle.model.specs.declared.Wait.{Wait}
use Rattle.model.specs.declared.Wait.TheVariants.{NoWait, Sending, Receiving, AtMailbox}
use Rattle.model.proofs.Tests.{from_within, to_within}
use Rattle.model.proofs.Standing.{same_queue, task_cases, set_standing_is}
use Rattle.model.proofs.WaitMoves.{leave}
use Rattle.model.proofs.After.{after_end_wait, leads, leads_here}
use Rattle.model.proofs.EndWaits.{standing_left, messages_left}
use Rattle.model.proofs.KeptTasks.{Somewhere, waits_somewhere}
use Rattle.parts.specs.Chains.{task_chains, chain_number, wait_chain}
use Rattle.parts.specs.Tasks.{task_row, read_code, with_wait_ended}
use Rattle.parts.specs.declared.Task.{Task}
use Rattle.record.specs.declared.State.{State}
use Rattle.record.specs.Meaning.{task_at, abs}
use Rattle.record.specs.Sound.{Readable, Sound}
use Rattle.record.specs.Step.{Becomes}
use Rattle.waits.specs.Waiting.{chain_list, ChainOf, OnChain, rows_with_wait_ended, Endable, Ended, Clearable, Cleared}
use Rattle.record.proofs.Rows.{passes_or_not, row_is}
use Rattle.record.proofs.Chains.{ChainOwner, chain_owner, named_chain}
use Rattle.record.proofs.Standing.{stands_from}
use Rattle.record.proofs.Laws.{with_task, with_waiting, counter_is}
use Rattle.waits.proofs.Laws.{rows_of, end_ahead, becomes_sound, has_chain, standing_chain, some_head, chain_of_queue, nobody_waits, ended_row, wait_changed}

-- ── A wait ends ──

module _ {s : State} {t : ℕ} (a : Endable s t) where
  abbrev R : Readable s
  R = a.readable

  pub endable_range : (1 ≤ t) × (t ≤ task_limit)
  endable_range = from_within 1 task_limit t a.valid_task

  named : (k : WaitQueue) → wait_queue (task_at s t).wait ≡ some k → T (valid (object_of k)) × (wait_chain (task_at s t).wait ≡ chain_number k)
  named k e = named_chain (task_at s t).wait k e a.object_in_range

  module _ {link : List ℕ} {n : ℕ} (p : Removed task_limit task_chains (wait_chain (task_at s t).wait) t s.waiting.link link n) (code : Code) where
    pub ended_all : (number : ℕ) → read_code number ≡ code → (y : Task) → y ≡ with_wait_ended number 0 (task_at s t) → Ended s t code (with_task t y (with_waiting link s))
    ended_all number number_is y e = record { becomes = one }
      where
        wait_is : ((abs s).rows (task t)).wait ≡ (task_at s t).wait
        wait_is = ap (λ (x : TaskRow). x.wait) (row_is s (task t) a.valid_task)

        one : (k : WaitQueue) → wait_queue ((abs s).rows (task t)).wait ≡ some k → Becomes s (rows_with_wait_ended t code k (abs s).rows) (with_task t y (with_waiting link s))
        one k f =
            let n = named k (ap wait_queue (sym wait_is) ∙ f) in
            let c : Changed task_limit task_chains (chain_number k) s.waiting.link link (without t (chain_list s (chain_number k))) = rw n.1 at p.changed in
            rw (standing_chain s k n.0)
            (wait_changed R k n.0 link (without t (chain_list s (chain_number k))) c t a.valid_task y _ (ap (λ (x : Task). x.suspended) e)
            (ap (λ (x : Task). task_row x (get_or s.waiting.key t 0)) e ∙ (ended_row (task_at s t) _ a.defined number number_is 0 ∙ ap (ended code 0) (sym (row_is s (task t) a.valid_task)))))

-- In well-formed rows a task that waits stands where its wait says, so its wait can be ended.
pub endable : {s : State} → Readable s → WellFormedRows (abs s).rows → (t : ℕ) → T (valid (task t)) → T (not (able ((abs s).rows (task t)).wait)) → Endable s t
endable {s} R w t v waits =
    let row : TaskWellFormed (task_row (task_at s t) (get_or s.waiting.key t 0)) = rw (row_is s (task t) v) at (w.tasks t) in
    let cell_waits : T (not (able (task_at s t).wait)) = rw (row_is s (task t) v) at waits in
    record {
      readable = R;
      valid_task = v;
      defined = passes_or_not (task_at s t).defined (λ d. d) (λ n. absurd (not_able (task_at s t).wait cell_waits (row.undefined n)));
      waits = cell_waits;
      object_in_range = row.object_in_range;
      stands = sym (stands_from s R.waiting w.waiting t v);
    }
  where
    not_able : (x : Wait) → T (not (able x)) → x ≡ NoWait → ⊥
    not_able x n e = rw e at n

-- A program that begins with the end of a wait goes on from the record in which it has ended.
module _ {s r : State} {t : ℕ} {code : Code} (waits : T (not (able ((abs s).rows (task t)).wait))) (e : Ended s t code r) where
  abbrev somewhere : Somewhere ((abs s).rows (task t)).wait
  somewhere = waits_somewhere ((abs s).rows (task t)).wait waits

  pub end_becomes : Becomes s (rows_with_wait_ended t code somewhere.queue_named (abs s).rows) r
  end_becomes = e.becomes somewhere.queue_named somewhere.named

  pub end_runs : (p : Effect) → run same_key (end_wait t code p) (abs s).rows ≡ run same_key p (abs r).rows
  end_runs p =
      leads (end_wait t code p) p (abs s).rows _ (after_end_wait t code somewhere.queue_named p (abs s).rows somewhere.named (leads_here _ _))
      ∙ ap (run same_key p) (sym end_becomes.rows_are)

  -- The rows stay well-formed.
  pub end_kept : T (ends_a_wait code) → WellFormedRows (abs s).rows → WellFormedRows (abs r).rows
  end_kept ends w = rw end_becomes.rows_are (leave w t somewhere.queue_named code 0 ends somewhere.named)

  -- The end ticks of the other waits stay ahead.
  pub ends_stay_ahead : (counter : ℕ) → ((j : ℕ) → EndAhead counter (wait_end ((abs s).rows (task j)).wait)) → (j : ℕ) → EndAhead counter (wait_end ((abs r).rows (task j)).wait)
  ends_stay_ahead counter ends j = rw (end_becomes.rows_are, set_standing_is somewhere.queue_named _ (abs s).rows)
      (task_cases t _ (λ i (x : TaskRow). EndAhead counter (wait_end x.wait)) _ tt j (λ n. ends j))

-- ── All waits of a chain end ──

-- What has been done of it: s₀ is the record before, s the record now.
pub record Ending (k : WaitQueue) (code : Code) (s₀ s : State) : Type 0 where
  pub counter_is : s.counter ≡ s₀.counter
  pub runs : (p : Effect) → run same_key (end_waits (standing_in (abs s₀).rows k) code p) (abs s₀).rows ≡ run same_key (end_waits (standing_in (abs s).rows k) code p) (abs s).rows
  pub others : (d : WaitQueue) → d ≢ k → standing_in (abs s).rows d ≡ standing_in (abs s₀).rows d
  pub messages : (b : ℕ) → ((abs s).rows (mailbox b)).messages ≡ ((abs s₀).rows (mailbox b)).messages

pub ending_begins : (k : WaitQueue) (code : Code) (s : State) → Ending k code s s
ending_begins k code s = record { counter_is = refl; runs = λ p. refl; others = λ d n. refl; messages = λ b. refl }

-- A list with a head is that and the rest.
split : (l : List ℕ) → T (not (empty l)) → l ≡ head_d l 0 ∷ without (head_d l 0) l
unfolding head_d empty
split [] n = absurd n
split (x ∷ l) n = ap (λ z. x ∷ z) (sym (without_head (x ∷ l) n))

-- The next wait to end is the head's.
module _ {s : State} {chain : ℕ} {code : Code} (a : Clearable s chain code) {t : ℕ} (head_is : t ≡ head_d (chain_list s chain) 0) (someone : t ≢ 0) where
  abbrev sound_now : Sound s
  sound_now = a.on.sound

  not_none : T (not (empty (chain_list s chain)))
  not_none = some_head (chain_list s chain) head_is someone

  in_chain_list : In t (chain_list s chain)
  in_chain_list = rw head_is (in_head (chain_list s chain) not_none)

  module _ (k : WaitQueue) (o : ChainOf k chain) where
    ending_list : standing_in (abs s).rows k ≡ chain_list s chain
    ending_list = chain_of_queue a.on k o

    waits_at_k : wait_queue ((abs s).rows (task t)).wait ≡ some k
    waits_at_k = (rows_of sound_now).waiting.no_other t k (rw ending_list in_chain_list)

  -- Some wait queue has the chain.
  owner : ChainOwner chain
  owner = chain_owner chain a.on.low a.on.high

  own : ChainOf owner.owner chain
  own = record { valid_object = owner.in_range; chain_is = owner.chain_is }

  head_valid : T (valid (task t))
  head_valid = let v = list_range (has_chain a.on) in_chain_list in to_within 1 task_limit t v.0 v.1

  head_waits : T (not (able ((abs s).rows (task t)).wait))
  head_waits = go ((abs s).rows (task t)).wait (waits_at_k owner.owner own)
    where
      go : (x : Wait) → wait_queue x ≡ some owner.owner → T (not (able x))
      go NoWait e = none-ne-some owner.owner e
      go (Sending q end word) e = tt
      go (Receiving q end) e = tt
      go (AtMailbox b end) e = tt

  pub head_endable : Endable s t
  head_endable = endable sound_now.readable (rows_of sound_now) t head_valid head_waits

  module _ {r : State} (e : Ended s t code r) where
    -- The record is sound when the wait has ended.
    ended_sound : Sound r
    ended_sound = becomes_sound sound_now (end_becomes head_waits e) (end_kept head_waits e a.ends (rows_of sound_now)) (ends_stay_ahead head_waits e s.counter (end_ahead sound_now))

    pub still_clearable : Clearable r chain code
    still_clearable = record { on = record { sound = ended_sound; low = a.on.low; high = a.on.high }; ends = a.ends }

    module _ (k : WaitQueue) (o : ChainOf k chain) where
      abbrev rest : List ℕ
      rest = without t (standing_in (abs s).rows k)

      list_split : standing_in (abs s).rows k ≡ t ∷ rest
      list_split = ending_list k o ∙ rw (ending_list k o, head_is) (split (chain_list s chain) not_none)

      rest_is : standing_in (abs r).rows k ≡ rest
      rest_is = rw (e.becomes k (waits_at_k k o)).rows_are (standing_left code (abs s).rows k rest t k ∙ update_same same_queue k rest (standing_in (abs s).rows))

      one_ended : (p : Effect) → run same_key (end_waits (standing_in (abs s).rows k) code p) (abs s).rows ≡ run same_key (end_waits (standing_in (abs r).rows k) code p) (abs r).rows
      unfolding end_waits
      one_ended p =
          ap (λ l. run same_key (end_waits l code p) (abs s).rows) list_split
          ∙ (end_runs head_waits e (end_waits rest code p) ∙ ap (λ l. run same_key (end_waits l code p) (abs r).rows) (sym rest_is))

      pub ending_on : {s₀ : State} → Ending k code s₀ s → Ending k code s₀ r
      ending_on i = record {
        counter_is = counter_is (e.becomes k (waits_at_k k o)) ∙ i.counter_is;
        runs = λ p. i.runs p ∙ one_ended p;
        others = λ d n. rw (e.becomes k (waits_at_k k o)).rows_are (standing_left code (abs s).rows k rest t d ∙ (update_other same_queue k rest (standing_in (abs s).rows) d n ∙ i.others d n));
        messages = λ b. rw (e.becomes k (waits_at_k k o)).rows_are (messages_left code (abs s).rows k rest t b ∙ i.messages b);
      }

    pub shorter : length (chain_list r chain) < length (chain_list s chain)
    shorter =
        let k = owner.owner in
        let now = sym (chain_of_queue still_clearable.on k own) ∙ rest_is k own in
        let before = sym (ending_list k own) ∙ list_split k own in
        let a = ap length now in
        let b = ap length before in
        omega arith

pub ending_done : {s₀ s : State} {chain t : ℕ} {code : Code} → OnChain s chain → t ≡ head_d (chain_list s chain) 0 → t ≡ 0 → (k : WaitQueue) → ChainOf k chain → Ending k code s₀ s → Cleared k code s₀ s
unfolding end_waits
ending_done {s₀} {s} {chain} {t} {code} a head_is none k o i = record {
  sound = a.sound;
  counter_is = i.counter_is;
  runs = λ p. i.runs p ∙ ap (λ l. run same_key (end_waits l code p) (abs s).rows) gone;
  no_one = gone;
  others = i.others;
  messages = i.messages;
}
  where
    gone : standing_in (abs s).rows k ≡ []
    gone = nobody_waits a k o head_is none
