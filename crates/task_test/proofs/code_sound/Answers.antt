-- `code_sound` is exact: its tests are of the numbers of the codes that a wait ends with.
use Rattle.parts.proofs.Codes.{ends_by_number}
use Rattle.task_test.proofs.code_sound.Goals as goal

pub returns : goal.returns
returns c = ends_by_number _
