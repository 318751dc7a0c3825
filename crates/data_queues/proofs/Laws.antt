-- A data queue that is defined: what its cells and its two chains say of its row. By the laws of the record.
use mathlib.Core.Path.{◌≡◌, refl, ap, ◌∙◌, subst}
use mathlib.Core.Bool.{not}
use mathlib.Core.List.{List, [], ◌∷◌}
use Prim.Native.Nat.{ℕ, ◌+◌, ◌<◌, ◌≤◌}
use native.Mathlib.Omega.{arith}
use lib.Dec.{T}
use lib.ListN.{length}
use mir.Facts.{ltb_yes}
use Rattle.lists.specs.Lists.{empty}
use Rattle.rows.specs.Program.{update}
use Rattle.ring.specs.Ring.{stored, InRange}
use Rattle.ring.specs.declared.Ring.{Ring}
use Rattle.model.specs.Sizes.{queue_limit}
use Rattle.model.specs.Rows.{queue, same_key, QueueRow, has_room, with_words, with_senders, with_receivers}
use Rattle.model.specs.Waits.{senders_of, receivers_of}
use Rattle.model.proofs.Choices.{cond_yes}
use Rattle.model.proofs.Tests.{from_within}
use Rattle.parts.specs.Queues.{is_defined, queue_row, QueueReadable}
use Rattle.parts.specs.declared.Queue.{Queue}
use Rattle.record.specs.declared.State.{State}
use Rattle.record.specs.Meaning.{queue_at, abs}
use Rattle.record.specs.Step.{Becomes}
use Rattle.record.proofs.Rows.{row_is}
use Rattle.record.proofs.Laws.{with_queue, queue_changed, meaning}
use Rattle.waits.specs.Waiting.{OnChain, ChainOf, Releasable}
use Rattle.waits.proofs.Laws.{releasable}
use Rattle.data_queues.specs.Premises.{queue_in, AtQueue}

module _ {s : State} {q : ℕ} (a : AtQueue s q) where
  abbrev x : QueueRow
  x = queue_in s q

  abbrev cell : Queue
  cell = queue_at s q

  queue_range : (1 ≤ q) × (q ≤ queue_limit)
  queue_range = from_within 1 queue_limit q a.valid_queue

  -- Its cells lie in their array.
  pub queue_fits : q < 17
  queue_fits = let r = queue_range in omega arith

  cell_defined : T (is_defined cell.defined)
  cell_defined = subst (λ (y : QueueRow). T y.defined) (row_is s (queue q) a.valid_queue) a.defined

  cell_readable : QueueReadable cell
  cell_readable = a.sound.readable.queues q a.valid_queue

  pub ring_in_range : InRange cell.ring
  ring_in_range = cell_readable.ring cell_defined

  pub words_are : x.words ≡ stored cell.ring
  words_are = ap (λ (y : QueueRow). y.words) (row_is s (queue q) a.valid_queue)

  pub capacity_is : x.capacity ≡ cell.ring.capacity
  capacity_is = ap (λ (y : QueueRow). y.capacity) (row_is s (queue q) a.valid_queue) ∙ cond_yes (is_defined cell.defined) _ _ cell_defined

  -- ── Its chains ──

  pub on_senders : OnChain s q
  on_senders = record { sound = a.sound; low = queue_range.0; high = let r = queue_range.1 in omega arith }

  pub on_receivers : OnChain s (16 + q)
  on_receivers = record { sound = a.sound; low = let r = queue_range.0 in omega arith; high = let r = queue_range.1 in omega arith }

  pub senders_chain : ChainOf (senders_of q) q
  senders_chain = record { valid_object = a.valid_queue; chain_is = refl }

  pub receivers_chain : ChainOf (receivers_of q) (16 + q)
  receivers_chain = record { valid_object = a.valid_queue; chain_is = refl }

  -- The head of either may be released.
  pub sender_releasable : T (not (empty x.senders)) → Releasable s q
  sender_releasable = releasable on_senders (senders_of q) senders_chain

  pub receiver_releasable : T (not (empty x.receivers)) → Releasable s (16 + q)
  receiver_releasable = releasable on_receivers (receivers_of q) receivers_chain

  -- ── Another ring ──

  -- The queue with another ring of the same capacity.
  abbrev pub with_ring : Ring → Queue
  with_ring r = record { ring = r; defined = cell.defined; attribute = cell.attribute; spare = cell.spare }

  pub ring_row : (r : Ring) (senders receivers : List ℕ) → r.capacity ≡ cell.ring.capacity
      → queue_row (with_ring r) senders receivers ≡ with_receivers receivers (with_senders senders (with_words (stored r) x))
  ring_row r senders receivers e = rw (row_is s (queue q) a.valid_queue, e) refl

  pub ring_readable : (r : Ring) → InRange r → QueueReadable (with_ring r)
  ring_readable r inside = record { flag = cell_readable.flag; ring = λ d. inside }

  pub ring_changed : (r : Ring) → InRange r → r.capacity ≡ cell.ring.capacity → (words : List ℕ) → stored r ≡ words
      → Becomes s (update same_key (queue q) (with_words words x) (abs s).rows) (with_queue q (with_ring r) s)
  ring_changed r inside e words w =
      meaning (ap (λ (z : QueueRow). update same_key (queue q) z (abs s).rows) (ring_row r x.senders x.receivers e ∙ ap (λ l. with_words l x) w))
      (queue_changed a.sound.readable q a.valid_queue (with_ring r) (ring_readable r inside))

  -- ── What the ring's methods ask ──

  pub room_left : T (has_room x) → length (stored cell.ring) < cell.ring.capacity
  room_left t = rw (words_are, capacity_is) at (ltb_yes {a = length x.words} {b = x.capacity} t)

  pub some_word : T (not (empty x.words)) → 0 < length (stored cell.ring)
  unfolding empty
  some_word t = rw (← words_are) (go x.words t)
    where
      go : (l : List ℕ) → T (not (empty l)) → 0 < length l
      go [] n = absurd n
      go (y ∷ l) n = omega arith
