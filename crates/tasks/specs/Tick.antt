-- Document 01, "Task states and ticks": what the tick hands back.
use Rattle.std.specs.Prelude.{◌≡◌}
use Rattle.model.specs.Tasks.{tick}
use Rattle.record.specs.declared.State.{State}
use Rattle.record.specs.declared.Step.{Step}
use Rattle.record.specs.Meaning.{abs}
use Rattle.record.specs.Sound.{Readable}

-- State and answer are the definition's, and rows can be read from the new record.
pub record Ticked (s : State) (r : Step) : Type 0 where
  pub meaning_is : abs r.state ≡ (tick (abs s)).state
  pub answer_is : r.answer ≡ (tick (abs s)).answer
  pub readable : Readable r.state
