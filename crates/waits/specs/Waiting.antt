-- Document 01, "Error numbers and their order" (place, and how a wait starts and ends): what the methods do that several calls share. k is a wait queue, and
-- the methods are handed the number of its chain.
use Rattle.std.specs.Prelude.{◌≡◌, Bool, not, ◌≢◌, ℕ, ◌≤◌, T, get_or}
use mathlib.Core.List.{List, [], map, tail, head_d}
use Rattle.std.proofs.Math.Option.{some}
use Rattle.lists.specs.Lists.{empty, insert_at, without}
use Rattle.rows.specs.Program as Program
use Rattle.rows.specs.Program.{update, run}
use Rattle.chain.specs.Table.{lists, chain_of}
use Rattle.model.specs.Sizes.{task_limit}
use Rattle.model.specs.Rows.{task, mailbox, same_key, valid, Row, Effect}
use Rattle.model.specs.Codes.{waits}
use Rattle.model.specs.Waits.{able, starting, ended, WaitQueue, object_of, wait_queue}
use Rattle.model.specs.WaitQueues.{place, end_waits, standing_in, set_standing}
use Rattle.model.specs.WellFormed.{ObjectInRange, ends_a_wait}
use Rattle.model.specs.declared.Code.{Code}
use Rattle.model.specs.declared.Code.TheVariants.{Ok as E_OK}
use Rattle.model.specs.declared.Wait.{Wait}
use Rattle.model.specs.declared.Wait.TheVariants.{NoWait}
use Rattle.parts.specs.Chains.{task_chains, chain_number, wait_chain}
use Rattle.record.specs.declared.State.{State}
use Rattle.record.specs.declared.Step.{Step}
use Rattle.record.specs.Meaning.{task_at, abs}
use Rattle.record.specs.Sound.{Readable, Sound}
use Rattle.record.specs.Step.{Becomes}

-- The tasks in a chain of the table of waiting tasks.
abbrev pub chain_list : State → ℕ → List ℕ
chain_list s chain = get_or (lists task_limit task_chains s.waiting.link) chain []

-- The chain is a wait queue's.
pub record ChainOf (k : WaitQueue) (chain : ℕ) : Type 0 where
  pub valid_object : T (valid (object_of k))
  pub chain_is : chain_number k ≡ chain

-- What is promised below of every wait queue with a chain is promised of exactly one: every chain of the table is a wait queue's, and no two have the same.
pub record SomeQueue (chain : ℕ) : Type 0 where
  pub queue : WaitQueue
  pub is : ChainOf queue chain

abbrev pub EveryChainHasAQueue : Type 0
EveryChainHasAQueue = (chain : ℕ) → 1 ≤ chain → chain ≤ task_chains → SomeQueue chain

abbrev pub NoChainHasTwoQueues : Type 0
NoChainHasTwoQueues = (chain : ℕ) (k d : WaitQueue) → ChainOf k chain → ChainOf d chain → k ≡ d

-- A sound record, and the number of a chain.
pub record OnChain (s : State) (chain : ℕ) : Type 0 where
  pub sound : Sound s
  pub low : 1 ≤ chain
  pub high : chain ≤ task_chains

-- ── The head's wait ends with E_OK and a word ──

abbrev pub released : WaitQueue → ℕ → Program.Rows Row → Program.Rows Row
released k word m =
    update same_key (task (head_d (standing_in m k) 0)) (ended E_OK word (m (task (head_d (standing_in m k) 0)))) (set_standing k (tail (standing_in m k)) m)

pub record Releasable (s : State) (chain : ℕ) : Type 0 where
  pub on : OnChain s chain
  pub someone : T (not (empty (chain_list s chain)))

pub record Released (s : State) (chain word : ℕ) (r : State) : Type 0 where
  pub becomes : (k : WaitQueue) → ChainOf k chain → Becomes s (released k word (abs s).rows) r

-- ── A task starts a wait ──

-- How many stay ahead of the task.
abbrev pub place_in : Bool → ℕ → WaitQueue → Program.Rows Row → ℕ
place_in by_priority me k m = place by_priority (m (task me)).priority (map (λ t. (m (task t)).priority) (standing_in m k))

abbrev pub joined : Bool → ℕ → WaitQueue → Wait → Program.Rows Row → Program.Rows Row
joined by_priority me k wait m =
    update same_key (task me) (starting wait (m (task me))) (set_standing k (insert_at (place_in by_priority me k m) me (standing_in m k)) m)

pub record Joinable (s : State) (chain me : ℕ) : Type 0 where
  pub on : OnChain s chain
  pub defined : T ((abs s).rows (task me)).defined
  pub able : ((abs s).rows (task me)).wait ≡ NoWait

pub record Joined (s : State) (chain me : ℕ) (by_priority : Bool) (wait : Wait) (r : Step) : Type 0 where
  pub becomes : (k : WaitQueue) → ChainOf k chain → Becomes s (joined by_priority me k wait (abs s).rows) r.state
  pub answer_is : (k : WaitQueue) → ChainOf k chain → r.answer ≡ waits (place_in by_priority me k (abs s).rows)

-- ── A task's wait ends, at whatever place ──

abbrev pub rows_with_wait_ended : ℕ → Code → WaitQueue → Program.Rows Row → Program.Rows Row
rows_with_wait_ended t code k m = update same_key (task t) (ended code 0 (m (task t))) (set_standing k (without t (standing_in m k)) m)

-- The task waits and stands in the chain that its wait names. No more is asked, so that the tick can ask it of a record that isn't sound before the tick
-- is over.
pub record Endable (s : State) (t : ℕ) : Type 0 where
  pub readable : Readable s
  pub valid_task : T (valid (task t))
  pub defined : T (task_at s t).defined
  pub waits : T (not (able (task_at s t).wait))
  pub object_in_range : ObjectInRange (task_at s t).wait
  pub stands : chain_of t (lists task_limit task_chains s.waiting.link) ≡ wait_chain (task_at s t).wait

pub record Ended (s : State) (t : ℕ) (code : Code) (r : State) : Type 0 where
  pub becomes : (k : WaitQueue) → wait_queue ((abs s).rows (task t)).wait ≡ some k → Becomes s (rows_with_wait_ended t code k (abs s).rows) r

-- There is such a wait queue, and one alone, since `wait_queue` is a function.
pub record SomeQueueNamed (wait : Wait) : Type 0 where
  pub queue : WaitQueue
  pub is : wait_queue wait ≡ some queue

abbrev pub EveryWaitNamesAQueue : Type 0
EveryWaitNamesAQueue = (s : State) (t : ℕ) → Endable s t → SomeQueueNamed ((abs s).rows (task t)).wait

-- ── All waits of a wait queue end ──

pub record Clearable (s : State) (chain : ℕ) (code : Code) : Type 0 where
  pub on : OnChain s chain
  pub ends : T (ends_a_wait code)

-- What the waits' ends leave is what is left of any program that begins with them; nobody stands in the wait queue any more, and the other wait queues and
-- the messages are as they were.
pub record Cleared (k : WaitQueue) (code : Code) (s r : State) : Type 0 where
  pub sound : Sound r
  pub counter_is : r.counter ≡ s.counter
  pub runs : (p : Effect) → run same_key (end_waits (standing_in (abs s).rows k) code p) (abs s).rows ≡ run same_key p (abs r).rows
  pub no_one : standing_in (abs r).rows k ≡ []
  pub others : (d : WaitQueue) → d ≢ k → standing_in (abs r).rows d ≡ standing_in (abs s).rows d
  pub messages : (b : ℕ) → ((abs r).rows (mailbox b)).messages ≡ ((abs s).rows (mailbox b)).messages
