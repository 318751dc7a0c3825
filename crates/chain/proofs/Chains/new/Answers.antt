-- `Chains::new` fills the cells with 0, so all chains are empty.
use mathlib.Core.Path.{refl}
use Rattle.chain.proofs.New.{new_sound, new_lists}
use Rattle.chain.proofs.Chains.new.Goals as goal

pub returns : goal.returns
returns c = record { sound = new_sound; lists_are = new_lists; keys_are = refl }
