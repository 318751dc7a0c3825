-- The words of a ring, wherever they lie and however many places it has: by the laws of its places and of ascending numbers.
use mathlib.Core.Path.{◌≡◌}
use mathlib.Core.Logic.{◌≢◌}
use mathlib.Core.List.{[], ◌∷◌, ◌++◌, map-append}
use Prim.Native.Nat.{ℕ, suc, ◌+◌, ◌<◌}
use native.Mathlib.Nat.{zero-add}
use native.Mathlib.Numerals.{one-add}
use native.Mathlib.Omega.{arith}
use lib.ListN.{length, length-map}
use Rattle.lists.specs.Lists.{ascending}
use Rattle.lists.proofs.Ascending.{length_ascending, ascending_last, map_ascending}
use Rattle.ring.specs.Ring.{further, words_from}
use Rattle.ring.proofs.Places.{no_further, one_then_further, different_places}

-- As many words as places.
pub length_words : (word_at : ℕ → ℕ) (size head count : ℕ) → length (words_from word_at size head count) ≡ count
unfolding words_from
length_words word_at size head count = rw (length-map, length_ascending)

-- The words depend on nothing but what is read at the places from the head on.
pub words_agree : (v w : ℕ → ℕ) (size head_v head_w count : ℕ) → ((n : ℕ) → n < count → v (further size head_v n) ≡ w (further size head_w n))
    → words_from v size head_v count ≡ words_from w size head_w count
unfolding words_from
words_agree v w size head_v head_w count h = map_ascending _ _ 0 0 count (λ n l. rw zero-add (h n l))

-- The newest word stands behind the others.
words_last : (word_at : ℕ → ℕ) (size head count : ℕ)
    → words_from word_at size head (suc count) ≡ words_from word_at size head count ++ word_at (further size head count) ∷ []
unfolding words_from
words_last word_at size head count = rw (ascending_last, map-append, zero-add)

-- A word at the place behind the newest, with the words at all other places as they were, is one more at the end.
pub words_newest : (v w : ℕ → ℕ) (word size head count : ℕ) → head < size → count < size → v (further size head count) ≡ word
    → ((place : ℕ) → place ≢ further size head count → v place ≡ w place)
    → words_from v size head (suc count) ≡ words_from w size head count ++ word ∷ []
words_newest v w word size head count p l e h =
    cc (words_last v size head count, words_agree v w size head head count (λ n k. h _ (different_places size head n count p (omega arith) l (omega arith))))

-- The oldest word is at the head, and the others follow from the next place on.
pub words_oldest : (word_at : ℕ → ℕ) (size head count : ℕ) → head < size
    → words_from word_at size head (suc count) ≡ word_at head ∷ words_from word_at size (further size head 1) count
unfolding words_from ascending
words_oldest word_at size head count p =
    cc (no_further size head p, map_ascending (λ n. word_at (further size head n)) (λ n. word_at (further size (further size head 1) n)) 1 0 count next)
  where
    next : (n : ℕ) → n < count → word_at (further size head (1 + n)) ≡ word_at (further size (further size head 1) (0 + n))
    next n l = rw (one-add, zero-add, one_then_further)
