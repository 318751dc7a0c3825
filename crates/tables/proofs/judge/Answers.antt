-- `judge` is the kernel's judgement, behind the test, of the call that the record is read as.
use Rattle.tables.proofs.judge.Goals as goal

pub returns : goal.returns
returns c = rw c.in_table.ensures at c.judge_sound.ensures
