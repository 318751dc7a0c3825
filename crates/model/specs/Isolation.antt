-- Demand 3, and document 01, "What demand 3 compares".
use Rattle.std.specs.Prelude.{◌≡◌, Bool, not, ℕ, T, eqb}
use mathlib.Core.List.{List, [], flatten}
use Rattle.std.proofs.Math.Option.{some}
use Rattle.lists.specs.Lists.{Each}
use Rattle.lists.specs.Options.{IfSome}
use Rattle.rows.specs.Program as Program
use Rattle.rows.specs.Runs.{in_a_row}
use Rattle.rows.specs.Merge.{Separate}
use Rattle.rows.specs.Merges.{SeparateAll}
use Rattle.model.specs.Rows.{Key, task, suspension, queue, mailbox, message, valid, Row, MessageRow, Model, empty_state}
use Rattle.model.specs.Calls.{Call, is_tick, names}
use Rattle.model.specs.Waits.{Wait, object_named}
use Rattle.model.specs.Step.{step}
use Rattle.model.specs.WellFormed.{WellFormed}

-- ── What is used of a sound state: whatever stands in an object names that object ──

abbrev pub WaitsAt : Key → Wait → Type 0
WaitsAt k w = object_named w ≡ some k

pub record QueuedAt (b : ℕ) (x : MessageRow) : Type 0 where
  pub queued_here : x.queued_in ≡ b
  pub a_mailbox : T (not (eqb b 0))

pub record Linked (m : Program.Rows Row) : Type 0 where
  pub senders : (q : ℕ) → Each (λ t. WaitsAt (queue q) (m (task t)).wait) (m (queue q)).senders
  pub receivers : (q : ℕ) → Each (λ t. WaitsAt (queue q) (m (task t)).wait) (m (queue q)).receivers
  pub waiters : (b : ℕ) → Each (λ t. WaitsAt (mailbox b) (m (task t)).wait) (m (mailbox b)).waiters
  pub messages : (b : ℕ) → Each (λ g. QueuedAt b (m (message g))) (m (mailbox b)).messages

-- A well-formed state is linked, so a sound record is.
abbrev pub WellFormedLinked : Type 0
WellFormedLinked = (m : Model) → WellFormed m → Linked m.rows

-- ── A carrier's things. S says which rows are its own ──

-- A task waits, and a message is queued, only in objects of S.
abbrev pub WaitsIn : (Key → Type 0) → Wait → Type 0
WaitsIn S w = IfSome S (object_named w)

unfoldable pub QueuedIn : (Key → Type 0) → ℕ → Type 0
QueuedIn S b = T (not (eqb b 0)) → S (mailbox b)

-- The carrier's waiting tasks and queued messages stand only in its own objects. Other tasks and messages may stand there too.
pub record Placed (S : Key → Type 0) (m : Program.Rows Row) : Type 0 where
  pub tasks : (t : ℕ) → S (task t) → WaitsIn S (m (task t)).wait
  pub messages : (g : ℕ) → S (message g) → QueuedIn S (m (message g)).queued_in

-- A call in the carrier's list: no tick, and each valid number that it names is the carrier's own. A number that isn't valid may be any.
pub record CallOf (S : Key → Type 0) (c : Call) : Type 0 where
  pub no_tick : T (not (is_tick c))
  pub own_names : Each (λ k. T (valid k) → S k) (names c)

-- ── Two carriers ──

-- "Carrier" is document 01's word for a party that makes calls: here, the numbers of the tasks, data queues, mailboxes and messages that are its own.
pub record Carrier : Type 0 where
  pub tasks : ℕ → Bool
  pub queues : ℕ → Bool
  pub mailboxes : ℕ → Bool
  pub messages : ℕ → Bool

abbrev pub owns : Carrier → Key → Bool
owns a (task n) = a.tasks n
owns a (suspension n) = a.tasks n
owns a (queue n) = a.queues n
owns a (mailbox n) = a.mailboxes n
owns a (message n) = a.messages n

abbrev pub Own : Carrier → Key → Type 0
Own a k = T (owns a k)

-- No number in common.
abbrev pub Disjoint : Carrier → Carrier → Type 0
Disjoint a b = (k : Key) → Own a k → Own b k → ⊥

-- Two carriers that have no number in common, each with any list of calls, of known number or not, refused ones too, but no tick, whose valid numbers are its
-- own. `call_of` says as which call each one is read.
pub record ListsOfTwo {C : Type 0} (call_of : C → Call) (a b : Carrier) (xs ys : List C) : Type 0 where
  pub disjoint : Disjoint a b
  pub calls_of_a : Each (λ c. CallOf (Own a) (call_of c)) xs
  pub calls_of_b : Each (λ c. CallOf (Own b) (call_of c)) ys

-- Demand 3: from any linked state, for any two carriers and any list of calls of each, every merge answers as each list alone does, and all merges end
-- in equal states.
abbrev pub Isolation : Type 0
Isolation =
    (m : Model) → Linked m.rows
    → (a b : Carrier) → Placed (Own a) m.rows → Placed (Own b) m.rows
    → (xs ys : List Call) → ListsOfTwo (λ c. c) a b xs ys
    → Separate step m xs ys

-- From the empty state, whatever the counter, nothing is asked of the state.
abbrev pub IsolationFromEmpty : Type 0
IsolationFromEmpty =
    (counter : ℕ) (a b : Carrier) (xs ys : List Call) → ListsOfTwo (λ c. c) a b xs ys
    → Separate step (empty_state counter) xs ys

-- ── Any number of carriers ──

-- Whose each number is.
pub record Owners (I : Type 0) : Type 0 where
  pub tasks : ℕ → I
  pub queues : ℕ → I
  pub mailboxes : ℕ → I
  pub messages : ℕ → I

abbrev pub owner : {I : Type 0} → Owners I → Key → I
owner o (task n) = o.tasks n
owner o (suspension n) = o.tasks n
owner o (queue n) = o.queues n
owner o (mailbox n) = o.mailboxes n
owner o (message n) = o.messages n

abbrev pub OwnedBy : {I : Type 0} → Owners I → I → Key → Type 0
OwnedBy o i k = owner o k ≡ i

-- The same for any number of carriers, each with a list of calls; who has no calls need not be placed.
abbrev pub IsolationOfMany : Type 1
IsolationOfMany =
    (I : Type 0) (same_owner : Discrete I) (m : Model) → Linked m.rows
    → (o : Owners I) (lists : I → List Call)
    → ((i : I) → (lists i ≡ [] → ⊥) → Placed (OwnedBy o i) m.rows)
    → ((i : I) → Each (CallOf (OwnedBy o i)) (lists i))
    → SeparateAll same_owner step m lists

-- ── With tables (document 02, item 2) ──

-- Each entry of a list stands for calls made in a row: a table's (`calls_made`), or one call made singly. Every merge answers as each list alone does, entry
-- by entry, and all merges end in equal states.
abbrev pub IsolationInRows : Type 0
IsolationInRows =
    (m : Model) → Linked m.rows
    → (a b : Carrier) → Placed (Own a) m.rows → Placed (Own b) m.rows
    → (xs ys : List (List Call)) → ListsOfTwo (λ c. c) a b (flatten xs) (flatten ys)
    → Separate (in_a_row step) m xs ys

abbrev pub IsolationOfManyInRows : Type 1
IsolationOfManyInRows =
    (I : Type 0) (same_owner : Discrete I) (m : Model) → Linked m.rows
    → (o : Owners I) (lists : I → List (List Call))
    → ((i : I) → (flatten (lists i) ≡ [] → ⊥) → Placed (OwnedBy o i) m.rows)
    → ((i : I) → Each (CallOf (OwnedBy o i)) (flatten (lists i)))
    → SeparateAll same_owner (in_a_row step) m lists
