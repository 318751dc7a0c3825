-- Document 01, "Error numbers and their order" (place), "Sending and receiving" and "Mailboxes" (order of waiters and messages): what the
-- functions on chains ask and promise. link is the table before, link' after; the lists of both are those that are read from their cells.
use Rattle.std.specs.Prelude.{◌≡◌, Bool, true, false, ℕ, suc, ◌+◌, ◌<◌, ◌≤◌, length, get_or, set, replicate}
use mathlib.Core.List.{List, [], tail, head_d}
use Rattle.lists.specs.Lists.{insert_at, without, ahead, passed}
use Rattle.lists.specs.Tests.{Whether}
use Rattle.chain.specs.Table.{cells, key_cells, every_key, lists, Sound, chain_of, keys_of}

-- A new table is sound, whatever its size, all its chains are empty, and every key is 0.
pub record New (link key : List ℕ) : Type 0 where
  pub sound : (numbers chains : ℕ) → numbers < key_cells → numbers + chains < cells → Sound numbers chains link
  pub lists_are : (numbers chains : ℕ) → numbers < key_cells → numbers + chains < cells → lists numbers chains link ≡ replicate (suc chains) []
  pub keys_are : key ≡ replicate key_cells 0

-- The table is sound and has this chain.
pub record HasChain (numbers chains chain : ℕ) (link : List ℕ) : Type 0 where
  pub sound : Sound numbers chains link
  pub low : 0 < chain
  pub high : chain ≤ chains

-- The chain is this list now, and all others are as before.
pub record Changed (numbers chains chain : ℕ) (link link' list : List ℕ) : Type 0 where
  pub sound : Sound numbers chains link'
  pub lists_are : lists numbers chains link' ≡ set (lists numbers chains link) chain list

-- The number is one of the table's and stands in no chain; there is a key for every number.
pub record Insertable (numbers chains chain number : ℕ) (link key : List ℕ) : Type 0 where
  pub has : HasChain numbers chains chain link
  pub positive : 0 < number
  pub in_table : number ≤ numbers
  pub free : chain_of number (lists numbers chains link) ≡ 0
  pub keys_count : length key ≡ key_cells

-- "Place" is document 01's word: how many stay ahead. Here they are the numbers at the head of the chain whose key is at most the limit.
pub record Inserted (numbers chains chain number limit : ℕ) (link key link' : List ℕ) (place : ℕ) : Type 0 where
  pub place_is : place ≡ passed limit (keys_of key (get_or (lists numbers chains link) chain []))
  pub at_the_end : limit ≡ every_key → place ≡ length (get_or (lists numbers chains link) chain [])
  pub changed : Changed numbers chains chain link link' (insert_at place number (get_or (lists numbers chains link) chain []))

-- The first number is out of its chain; 0 stands for none.
pub record Popped (numbers chains chain : ℕ) (link link' : List ℕ) (number : ℕ) : Type 0 where
  pub first_is : number ≡ head_d (get_or (lists numbers chains link) chain []) 0
  pub changed : Changed numbers chains chain link link' (tail (get_or (lists numbers chains link) chain []))

-- The number is out of its chain, and the place is how many stood ahead of it.
pub record Removed (numbers chains chain number : ℕ) (link link' : List ℕ) (place : ℕ) : Type 0 where
  pub place_is : place ≡ ahead number (get_or (lists numbers chains link) chain [])
  pub changed : Changed numbers chains chain link link' (without number (get_or (lists numbers chains link) chain []))

-- The chain that the number stands in, which is one of the table's, or 0.
pub record StandsIn (numbers chains number : ℕ) (link : List ℕ) (chain : ℕ) : Type 0 where
  pub chain_is : chain ≡ chain_of number (lists numbers chains link)
  pub high : chain ≤ chains

-- The answer says whether the table is sound. If it is, `standing` has for each number the chain that it stands in, 0 for none. If it isn't,
-- `standing` has zeros, as it was lent.
pub record Tested (numbers chains : ℕ) (link standing : List ℕ) (answer : Bool) : Type 0 where
  pub exact : Whether (Sound numbers chains link) answer
  pub size : length standing ≡ key_cells
  pub standing_is : answer ≡ true → (number : ℕ) → get_or standing number 0 ≡ chain_of number (lists numbers chains link)
  pub as_lent : answer ≡ false → standing ≡ replicate key_cells 0
