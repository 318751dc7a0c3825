-- The words that a ring stores, before and after a method: by the laws of words, with what a place of the array holds for what is read at a place.
use mathlib.Core.Path.{◌≡◌}
use mathlib.Core.List.{[]}
use Prim.Native.Nat.{ℕ, ◌+◌, ◌<◌}
use native.Mathlib.Numerals.{add-one}
use native.Mathlib.Omega.{arith}
use borrow.Author.Rules.{rules}
use lib.ListN.{length, get_or, set}
use lib.Seq.{get_or-set_same, get_or-set_other}
use Rattle.lists.specs.Lists.{ascending}
use Rattle.ring.specs.Ring.{places, further, words_from, stored, InRange, Pushed, OldestPopped}
use Rattle.ring.specs.declared.Ring.{Ring}
use Rattle.ring.proofs.Places.{further_is_place}
use Rattle.ring.proofs.Words.{length_words, words_agree, words_newest, words_oldest}

-- The count tells how many words are stored.
pub length_stored : (r : Ring) → length (stored r) ≡ r.count
unfolding stored
length_stored r = length_words _ places r.head r.count

-- Two rings that hold the same words along their places store the same words, wherever they start and whatever else they hold.
pub stored_agrees : (r s : Ring) → r.count ≡ s.count
    → ((n : ℕ) → n < s.count → get_or r.words (further places r.head n) 0 ≡ get_or s.words (further places s.head n) 0)
    → stored r ≡ stored s
unfolding stored
stored_agrees r s e h = rw e (words_agree _ _ places r.head s.head s.count h)

-- Where no word is counted none is stored.
pub stored_none : (r : Ring) → r.count ≡ 0 → stored r ≡ []
unfolding stored words_from ascending
stored_none r e = rw e

-- A word written at the place behind the newest, and counted, is stored behind the others.
pub pushed : {s r : Ring} {word : ℕ} (at : ℕ) → InRange s → length (stored s) < s.capacity → length s.words ≡ places
    → at ≡ further places s.head s.count → r.words ≡ set s.words at word → r.head ≡ s.head → r.count ≡ s.count + 1
    → r.capacity ≡ s.capacity → Pushed s word r
unfolding stored
pushed {s} {r} {word} at within room sized here written same_head one_more same_capacity =
    let counted = length_stored s in
    let inside : at < length s.words = omega (arith, further_is_place places s.head s.count (omega arith)) in
    record {
      words_are =
          rw (written, same_head, one_more, add-one)
          (words_newest _ _ word places s.head s.count within.head_is_place (omega arith) (rw (← here) (get_or-set_same s.words at word 0 inside))
          (λ place other. get_or-set_other s.words at place word 0 (rw here other)));
      kept = search rules;
    }

-- With the next place as the head, and one word less counted, the word at the old head is taken out.
pub popped : {s r : Ring} {word : ℕ} → InRange s → word ≡ get_or s.words s.head 0 → r.words ≡ s.words
    → r.head ≡ further places s.head 1 → r.count + 1 ≡ s.count → r.capacity ≡ s.capacity → OldestPopped s word r
unfolding stored
popped {s} {r} within oldest same_words next_head one_less same_capacity =
    let next = further_is_place places s.head 1 (omega arith) in
    record {
      words_were = rw (same_words, next_head, oldest, ← one_less, add-one) (words_oldest _ places s.head r.count within.head_is_place);
      kept = search rules;
    }
