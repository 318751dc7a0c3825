-- Document 01, "The kernel part we mean" (the ring of 16 words, the capacity), "Sending and receiving" (stored words) and "A sound record"
-- (stored count, where a ring starts, unused cells): which words a ring stores, and what its methods promise.
--
-- Free, and seen by no caller: where the ring starts, which is any of its places, and the cells outside the stored words, which hold anything.
-- Neither counts for equality. In the records below, s is the ring before a method and r the ring that it hands back.
use Rattle.std.specs.Prelude.{◌≡◌, ℕ, ◌+◌, ◌%◌, ◌<◌, ◌≤◌, get_or}
use mathlib.Core.List.{List, [], ◌∷◌, ◌++◌, map, tail}
use Rattle.lists.specs.Lists.{ascending}
use Rattle.ring.specs.declared.Ring.{Ring}

-- How many places a ring has. A place of a ring is an index of its words, as in document 01's "head place"; it isn't the place of a waiter.
abbrev pub places : ℕ
places = 16

-- The place n steps after a place, in a ring of so many places.
unfoldable pub further : ℕ → ℕ → ℕ → ℕ
further size place n = (place + n) % size

-- The words at so many places from a head on. What is read at a place is a parameter: this says nothing of where the words lie.
unfoldable pub words_from : (ℕ → ℕ) → ℕ → ℕ → ℕ → List ℕ
words_from word_at size head count = map (λ n. word_at (further size head n)) (ascending 0 count)

-- The stored words, oldest first.
unfoldable pub stored : Ring → List ℕ
stored r = words_from (λ place. get_or r.words place 0) places r.head r.count

-- A ring starts at one of its places, and stores no more words than its capacity, which is at most its places.
pub record InRange (r : Ring) : Type 0 where
  pub head_is_place : r.head < places
  pub count_fits : r.count ≤ r.capacity
  pub capacity_fits : r.capacity ≤ places

-- What holds of every ring that a method hands back: it is in range, with this capacity.
pub record Kept (capacity : ℕ) (r : Ring) : Type 0 where
  pub in_range : InRange r
  pub capacity_is : r.capacity ≡ capacity

-- No word is stored.
pub record NoWordStored (capacity : ℕ) (r : Ring) : Type 0 where
  pub words_are : stored r ≡ []
  pub kept : Kept capacity r

-- The word is stored behind those that were.
pub record Pushed (s : Ring) (word : ℕ) (r : Ring) : Type 0 where
  pub words_are : stored r ≡ stored s ++ word ∷ []
  pub kept : Kept s.capacity r

-- The word was the oldest, and those behind it are left.
pub record OldestPopped (s : Ring) (word : ℕ) (r : Ring) : Type 0 where
  pub words_were : stored s ≡ word ∷ stored r
  pub kept : Kept s.capacity r

-- The oldest word is gone, and the word is stored behind the others.
pub record Replaced (s : Ring) (word : ℕ) (r : Ring) : Type 0 where
  pub words_are : stored r ≡ tail (stored s) ++ word ∷ []
  pub kept : Kept s.capacity r
