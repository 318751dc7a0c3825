-- Document 01, "The kernel part we mean" (each core step takes the whole state and hands it back): what a step of a `State` promises is what a step of any
-- engine's record does (crate model, Engine.antt).
use Rattle.rows.specs.Program as Program
use Rattle.model.specs.Rows.{Row, Effect}
use Rattle.model.specs.Codes.{finished}
use Rattle.model.specs.Engine.{Engine}
use Rattle.model.specs.Engine as engine
use Rattle.model.specs.declared.Call.{Call}
use Rattle.model.specs.declared.Code.{Code}
use Rattle.record.specs.declared.State.{State}
use Rattle.record.specs.declared.Step.{Step}
use Rattle.record.specs.Meaning.{abs}
use Rattle.record.specs.Sound.{Readable, Sound}
use Rattle.record.specs.Equal.{SameState}

-- What the record means, when it is sound, and when two of them are equal states.
abbrev pub state_engine : Engine State
state_engine = record { abs = abs; Readable = Readable; Sound = Sound; Same = SameState }

-- The names of crate model follow, here of a `State` and the `Step` that is handed back.

-- ── One call that is not refused ──

abbrev pub Becomes : State → Program.Rows Row → State → Type 0
Becomes s m after = engine.Becomes state_engine s m after

abbrev pub Does : Effect → State → Step → Type 0
Does p s r = engine.Does state_engine p s r.state r.answer

-- ── Any record, with any call or tick ──

-- What is handed back where the call is refused: this code with no words, and the very record.
abbrev pub refusal_of : Code → State → Step
refusal_of code s = record { state = s; answer = finished code 0 0 0 }

-- What else the new record holds is free: where a ring starts, which is one of its places, and unused cells (Meaning.antt lists them).
abbrev pub Follows : State → Call → Step → Type 0
Follows s c r = engine.Follows state_engine s c r.state r.answer

abbrev pub Stepped : State → Call → Step → Type 0
Stepped s c r = engine.Stepped state_engine s c r.state r.answer
