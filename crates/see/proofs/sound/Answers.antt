-- `sound` says whether anything is seen.
use Rattle.see.proofs.Laws.{seen_of_sound}
use Rattle.see.proofs.sound.Goals as goal

pub returns : goal.returns
returns c = rw c.is_some.ensures (seen_of_sound _ c.see.result c.see.ensures)
