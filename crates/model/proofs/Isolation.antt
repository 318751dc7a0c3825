-- Demand 3: a carrier's part of the state is its rows with whatever stands in its objects at the start; no other carrier's call touches it.
use mathlib.Core.Path.{◌≡◌, refl, sym, ◌∙◌, ap, subst}
use mathlib.Core.Bool.{Bool, true, false, cond}
use mathlib.Core.List.{List, []}
use mathlib.Core.Option.{Option, none, some, map, get_or}
use Prim.Native.Nat.{ℕ}
use native.Mathlib.Omega.{arith}
use lib.Dec.{T, eqb}
use Rattle.lists.specs.Lists.{Each, none}
use Rattle.lists.proofs.Each.{each_map, each_beside}
use Rattle.lists.specs.Options.{IfSome}
use Rattle.rows.specs.Program as Program
use Rattle.rows.proofs.Footprint.{Closed}
use Rattle.rows.proofs.Owned.{separate_programs}
use Rattle.rows.specs.Merge.{Separate}
use Rattle.rows.specs.Merges.{SeparateAll}
use Rattle.rows.proofs.Two.{two_lists, each_list, two_of}
use Rattle.rows.proofs.InARow.{MadeOf, made_of_calls, single_made, rows_made}
use Rattle.model.specs.Rows.{Key, task, suspension, queue, mailbox, message, same_key, Row, Model, nothing, empty_state}
use Rattle.model.specs.Calls.{Call}
use Rattle.model.specs.Waits.{Wait, WaitQueue, senders_of, receivers_of, waiters_of, object_of, wait_queue, object_named}
use Rattle.model.specs.Step.{program, step}
use Rattle.model.specs.Isolation.{WaitsAt, Linked, QueuedIn, Placed, CallOf, Carrier, owns, Own, ListsOfTwo, Isolation, IsolationFromEmpty, Owners, owner, OwnedBy, IsolationOfMany}
use Rattle.model.specs.Isolation.{IsolationInRows, IsolationOfManyInRows}
use Rattle.model.proofs.Choices.{cond_no, cond_both}
use Rattle.model.proofs.Step.{step_call}
use Rattle.model.proofs.Footprints.{NamedIn, in_program}

module _ {I : Type 0} (o : Owners I) where
  -- Whose part a row is in: a waiting task is in that of the owner of the object it waits at, a queued message in that of its mailbox's owner, whoever owns the
  -- task or the message.
  abbrev waiter : I → Option Key → I
  waiter i k = get_or (map (owner o) k) i

  abbrev queued : I → ℕ → I
  queued i b = cond (eqb b 0) i (o.mailboxes b)

  unfoldable part : Program.Rows Row → Key → I
  part m (task n) = waiter (o.tasks n) (object_named (m (task n)).wait)
  part m (suspension n) = o.tasks n
  part m (queue n) = o.queues n
  part m (mailbox n) = o.mailboxes n
  part m (message n) = queued (o.messages n) (m (message n)).queued_in

  -- ── A part names nothing outside itself ──

  waiter_at : (i : I) (k : Key) (w : Wait) → WaitsAt k w → waiter i (object_named w) ≡ owner o k
  waiter_at i k w e = ap (waiter i) e

  waiter_in : (m : Program.Rows Row) (i j : I) (x : Option WaitQueue) → waiter i (map object_of x) ≡ j → IfSome (λ k. part m k ≡ j) (map object_of x)
  unfolding part
  waiter_in m i j none e = tt
  waiter_in m i j (some (senders_of q)) e = e
  waiter_in m i j (some (receivers_of q)) e = e
  waiter_in m i j (some (waiters_of b)) e = e

  part_closed : (m : Program.Rows Row) → Linked m → (i : I) → Closed NamedIn (λ k. part m k ≡ i) m
  unfolding part QueuedIn
  part_closed m l i (task n) r = waiter_in m (o.tasks n) i (wait_queue (m (task n)).wait) r
  part_closed m l i (suspension n) r = tt
  part_closed m l i (queue n) r = (
    each_map (λ t e. waiter_at _ (queue n) (m (task t)).wait e ∙ r) (l.senders n),
    each_map (λ t e. waiter_at _ (queue n) (m (task t)).wait e ∙ r) (l.receivers n),
  )
  part_closed m l i (mailbox n) r = (
    each_map (λ t e. waiter_at _ (mailbox n) (m (task t)).wait e ∙ r) (l.waiters n),
    each_map (λ g e. subst (λ b. queued (o.messages g) b ≡ i) (sym e.queued_here) (cond_no (eqb n 0) _ _ e.a_mailbox ∙ r)) (l.messages n),
  )
  part_closed m l i (message n) r = λ t. sym (cond_no (eqb (m (message n)).queued_in 0) _ _ t) ∙ r

  -- ── An owner's rows are in its part, where it is placed ──

  waiter_own : (i j : I) (x : Option Key) → i ≡ j → IfSome (OwnedBy o j) x → waiter i x ≡ j
  waiter_own i j none e h = e
  waiter_own i j (some k) e h = h

  part_own : (m : Program.Rows Row) (i : I) → Placed (OwnedBy o i) m → (k : Key) → OwnedBy o i k → part m k ≡ i
  unfolding part QueuedIn
  part_own m i p (task n) e = waiter_own (o.tasks n) i (object_named (m (task n)).wait) e (p.tasks n e)
  part_own m i p (suspension n) e = e
  part_own m i p (queue n) e = e
  part_own m i p (mailbox n) e = e
  part_own m i p (message n) e = cond_both (eqb (m (message n)).queued_in 0) _ _ e (p.messages n e)

-- ── Any number of carriers ──

pub isolation_of_many : IsolationOfMany
isolation_of_many I same_owner m linked o lists placed own =
    separate_programs same_key same_owner NamedIn program step (part o m.rows) Of (λ a. Unit)
    (λ i e c h. in_program (λ k. part o m.rows k ≡ i) e c (each_map (λ k g t. part_own o m.rows i h.0 k (g t)) h.1.own_names))
    (λ i s c h. step_call s c h.1.no_tick)
    m lists (part_closed o m.rows linked) (λ i. each_beside (lists i) (placed i) (own i))
  where
    Of : I → Call → Type 0
    Of i c = Placed (OwnedBy o i) m.rows × CallOf (OwnedBy o i) c

-- ── Two carriers ──

data Who : Type 0 where
  first second nobody : Who
  deriving Discrete as same_who

-- Whose a number is, where the two carriers have none in common.
abbrev whose : Bool → Bool → Who
whose true y = first
whose false true = second
whose false false = nobody

is_first : (x y : Bool) → T x → whose x y ≡ first
is_first true y t = refl
is_first false y t = absurd t

is_second : (x y : Bool) → (T x → T y → ⊥) → T y → whose x y ≡ second
is_second true y d t = absurd (d tt t)
is_second false true d t = refl
is_second false false d t = absurd t

of_first : (x y : Bool) → whose x y ≡ first → T x
of_first true y e = tt
of_first false true e = let z : ◌≡◌ {A = ℕ} 0 1 = cc in omega arith
of_first false false e = let z : ◌≡◌ {A = ℕ} 0 1 = cc in omega arith

of_second : (x y : Bool) → whose x y ≡ second → T y
of_second true true e = tt
of_second true false e = let z : ◌≡◌ {A = ℕ} 0 1 = cc in omega arith
of_second false true e = tt
of_second false false e = let z : ◌≡◌ {A = ℕ} 0 1 = cc in omega arith

-- Two ways of saying which rows are a carrier's own.
module _ {S R : Key → Type 0} (into : (k : Key) → S k → R k) where
  some_into : (x : Option Key) → IfSome S x → IfSome R x
  some_into none h = tt
  some_into (some k) h = into k h

  placed_into : ((k : Key) → R k → S k) → (m : Program.Rows Row) → Placed S m → Placed R m
  unfolding QueuedIn
  placed_into back m p = record {
    tasks = λ t h. some_into (object_named (m (task t)).wait) (p.tasks t (back (task t) h));
    messages = λ g h t. into (mailbox _) (p.messages g (back (message g) h) t);
  }

  call_into : (c : Call) → CallOf S c → CallOf R c
  call_into c h = record { no_tick = h.no_tick; own_names = each_map (λ k g t. into k (g t)) h.own_names }

-- The two carriers as owners.
abbrev owners : Carrier → Carrier → Owners Who
owners a b = record {
  tasks = λ n. whose (a.tasks n) (b.tasks n);
  queues = λ n. whose (a.queues n) (b.queues n);
  mailboxes = λ n. whose (a.mailboxes n) (b.mailboxes n);
  messages = λ n. whose (a.messages n) (b.messages n);
}

owner_is : (a b : Carrier) (k : Key) → owner (owners a b) k ≡ whose (owns a k) (owns b k)
owner_is a b (task n) = refl
owner_is a b (suspension n) = refl
owner_is a b (queue n) = refl
owner_is a b (mailbox n) = refl
owner_is a b (message n) = refl

-- ── Entries made of calls: single calls, and calls in a row, as a table's ──

-- `entry` is the step of one entry, `calls` are the calls that a list of entries stands for (crate rows, InARow).
module _ {X B : Type 0} {entry : Model → X → Program.Result Model B} {calls : List X → List Call} (made : MadeOf step entry calls) where
  pub many_carriers : (I : Type 0) (same_owner : Discrete I) (m : Model) → Linked m.rows → (o : Owners I) (lists : I → List X)
      → ((i : I) → (calls (lists i) ≡ [] → ⊥) → Placed (OwnedBy o i) m.rows) → ((i : I) → Each (CallOf (OwnedBy o i)) (calls (lists i)))
      → SeparateAll same_owner entry m lists
  many_carriers I same_owner m linked o lists placed own = made_of_calls same_owner made m lists (isolation_of_many I same_owner m linked o (λ i. calls (lists i)) placed own)

  pub two_carriers : (m : Model) → Linked m.rows → (a b : Carrier) → Placed (Own a) m.rows → Placed (Own b) m.rows
      → (xs ys : List X) → ListsOfTwo (λ c. c) a b (calls xs) (calls ys) → Separate entry m xs ys
  two_carriers m linked a b placed_a placed_b xs ys two =
      two_of same_who first second differ entry m xs ys
      (many_carriers Who same_who m linked (owners a b) (two_lists same_who first second xs ys)
      (each_list same_who first second differ (λ i l. (calls l ≡ [] → ⊥) → Placed (OwnedBy (owners a b) i) m.rows) (λ i calling. absurd (calling made.no_entry))
      (λ calling. placed_into in_a of_a m.rows placed_a) (λ calling. placed_into in_b of_b m.rows placed_b))
      (each_list same_who first second differ (λ i l. Each (CallOf (OwnedBy (owners a b) i)) (calls l)) (λ i. rw made.no_entry none)
      (each_map (call_into in_a) two.calls_of_a) (each_map (call_into in_b) two.calls_of_b)))
    where
      differ : first ≡ second → ⊥
      differ e = let z : ◌≡◌ {A = ℕ} 0 1 = cc in omega arith

      in_a : (k : Key) → Own a k → OwnedBy (owners a b) first k
      in_a k h = owner_is a b k ∙ is_first (owns a k) (owns b k) h

      of_a : (k : Key) → OwnedBy (owners a b) first k → Own a k
      of_a k h = of_first (owns a k) (owns b k) (sym (owner_is a b k) ∙ h)

      in_b : (k : Key) → Own b k → OwnedBy (owners a b) second k
      in_b k h = owner_is a b k ∙ is_second (owns a k) (owns b k) (two.disjoint k) h

      of_b : (k : Key) → OwnedBy (owners a b) second k → Own b k
      of_b k h = of_second (owns a k) (owns b k) (sym (owner_is a b k) ∙ h)

pub isolation : Isolation
isolation = two_carriers (single_made step)

pub isolation_in_rows : IsolationInRows
isolation_in_rows = two_carriers (rows_made step)

pub isolation_of_many_in_rows : IsolationOfManyInRows
isolation_of_many_in_rows = many_carriers (rows_made step)

-- ── The premises can be met: the empty state meets them ──

linked_empty : Linked nothing
linked_empty = record { senders = λ q. none; receivers = λ q. none; waiters = λ b. none; messages = λ b. none }

placed_empty : (S : Key → Type 0) → Placed S nothing
unfolding QueuedIn
placed_empty S = record { tasks = λ t h. tt; messages = λ g h t. absurd t }

pub placed_at_empty : {m : Model} {counter : ℕ} → m ≡ empty_state counter → (S : Key → Type 0) → Placed S m.rows
placed_at_empty e S = subst (λ m. Placed S m.rows) (sym e) (placed_empty S)

pub isolation_from_empty : IsolationFromEmpty
isolation_from_empty counter a b xs ys two = isolation (empty_state counter) linked_empty a b (placed_empty (Own a)) (placed_empty (Own b)) xs ys two
