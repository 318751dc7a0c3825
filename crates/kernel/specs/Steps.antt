-- What the three parts of a step promise: the judgement of a call on whatever record, and what is done by it.
use Rattle.std.specs.Prelude.{◌≡◌, not, ◌<◌, ◌≤◌, T}
use Rattle.model.specs.Sizes.{call_limit}
use Rattle.model.specs.declared.Call.{Call}
use Rattle.model.specs.declared.Code.TheVariants.{Par as E_PAR, Sys as E_SYS}
use Rattle.decide.specs.Decisions.{after, Ready, Decided}
use Rattle.decide.specs.Touches.{changed_by}
use Rattle.decide.specs.declared.Decision.{Decision}
use Rattle.decide.specs.declared.Decision.TheVariants.{Refuse}
use Rattle.record.specs.declared.State.{State}
use Rattle.record.specs.declared.Step.{Step}
use Rattle.record.specs.Meaning.{abs}
use Rattle.record.specs.Sound.{Readable, Sound}

-- A decision that may change the record is for a sound one, whose rows are as it asks.
pub record Appliable (s : State) (d : Decision) : Type 0 where
  pub sound : T (changed_by d) → Sound s
  pub ready : Ready (abs s) d

-- Document 01, steps 0 and 1 of the error table: an unknown number, then a record that isn't sound; of a sound record what the definition's step comes to.
pub record Judged (s : State) (c : Call) (d : Decision) : Type 0 where
  pub unknown : call_limit < c.number → d ≡ Refuse E_PAR
  pub unsound : c.number ≤ call_limit → (Sound s → ⊥) → d ≡ Refuse E_SYS
  pub sound : c.number ≤ call_limit → Sound s → Decided (abs s) c d
  -- So it can be applied.
  pub appliable : Appliable s d

-- State and answer are those that the decision stands for, and rows can be read from the new record; one that changes nothing hands back the very record.
pub record Applied (s : State) (d : Decision) (r : Step) : Type 0 where
  pub meaning_is : abs r.state ≡ (after (abs s) d).state
  pub answer_is : r.answer ≡ (after (abs s) d).answer
  pub readable : Readable s → Readable r.state
  pub unchanged : T (not (changed_by d)) → r.state ≡ s
