-- What the code makes of a record.
use Rattle.std.specs.Prelude.{cond, List, Option, Some, None, ℕ, ◌+◌, ◌-◌, ℤ, eqb, pos}
use Rattle.model.specs.Codes.{Values, number}
use Rattle.model.specs.declared.Answer.{Answer}
use Rattle.model.specs.declared.Outcome.{Outcome}
use Rattle.model.specs.declared.Outcome.TheVariants.{Finished as Is_finished, Waits as Does_wait}
use Rattle.recording.specs.Recording.{byte, half, word, signed, recorded_kind, recorded_call, not_run}
use Rattle.recording.specs.declared.Recorded.{Recorded}
use Rattle.recording.specs.declared.RecordedOutcome.{RecordedOutcome}
use Rattle.recording.specs.declared.RecordedOutcome.TheVariants.{Finished, Waits, Unknown}
use Rattle.recording.specs.declared.Run.{Run}

-- "code or place": a code, which is signed, where the kind is 0; a place where it is 1. Of an unknown kind both numbers are kept, the kind counted from 2.
abbrev pub outcome_of : ℕ → ℕ → RecordedOutcome
outcome_of kind said = cond (eqb kind 0) (Finished (signed said)) (cond (eqb kind 1) (Waits said) (Unknown (kind - 2) said))

abbrev pub recorded_outcome : List ℕ → RecordedOutcome
recorded_outcome r = outcome_of (recorded_kind r) (word r 20)

-- The fields of the answer as they stand in the record.
abbrev pub recorded_answer : List ℕ → Recorded
recorded_answer r = record { outcome = recorded_outcome r; a = word r 24; b = byte r 28; c = half r 29 }

abbrev pub recorded_outcome_as : Outcome → RecordedOutcome
recorded_outcome_as (Is_finished code) = Finished (number code)
recorded_outcome_as (Does_wait place) = Waits place

-- What a record of this answer has.
abbrev pub recorded_as : Answer → Recorded
recorded_as x = record { outcome = recorded_outcome_as x.outcome; a = x.a; b = x.b; c = x.c }

abbrev pub kind_of : RecordedOutcome → ℕ
kind_of (Finished code) = 0
kind_of (Waits place) = 1
kind_of (Unknown beyond said) = 2 + beyond

abbrev pub code_or_place_of : RecordedOutcome → ℤ
code_or_place_of (Finished code) = code
code_or_place_of (Waits place) = pos place
code_or_place_of (Unknown beyond said) = pos said

-- The same in document 01's numbers.
abbrev pub values_of : Recorded → Values
values_of x = record { kind = kind_of x.outcome; code_or_place = code_or_place_of x.outcome; a = x.a; b = x.b; c = x.c }

unfoldable pub decoded : List ℕ → Option Run
decoded r = cond (not_run r) None (Some (record { call = recorded_call r; recorded = recorded_answer r }))
