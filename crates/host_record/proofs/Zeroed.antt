-- A record of zeros is the empty one: its state is blank, as the one that `State::empty` makes.
use mathlib.Core.Path.{refl}
use native.Mathlib.Omega.{arith}
use Rattle.chain.specs.Changes.{New}
use Rattle.chain.proofs.New.{new_sound, new_lists}
use Rattle.ring.specs.Ring.{NoWordStored}
use Rattle.ring.proofs.Stored.{stored_none}
use Rattle.host_tasks.specs.Tasks.{read_task, wait_of}
use Rattle.record.proofs.Empty.{Blank, blank_sound, blank_means}
use Rattle.host_record.specs.Record.{state_of}
use Rattle.host_record.specs.Zeroed.{zeroed_ring, zeroed_chains, zeroed, ZeroedIsEmpty}

no_word : NoWordStored 0 zeroed_ring
no_word = record {
  words_are = stored_none zeroed_ring refl;
  kept = record { in_range = record { head_is_place = omega arith; count_fits = omega arith; capacity_fits = omega arith }; capacity_is = refl };
}

new_chains : New zeroed_chains.link zeroed_chains.key
new_chains = record { sound = new_sound; lists_are = new_lists; keys_are = refl }

blank : Blank zeroed_ring (state_of zeroed)
unfolding state_of read_task wait_of
blank = record { counter = refl; tasks = refl; waiting = new_chains; queues = refl; mailboxes = refl; messages = new_chains }

pub zeroed_empty : ZeroedIsEmpty
zeroed_empty = (blank_sound _ _ no_word blank, blank_means _ _ no_word blank)
