-- Document 01, "What demand 3 compares": calls on a record that stays where it is. The first call of a run gets the starting state, each later one the state
-- that the call before it left.
use Rattle.std.specs.Prelude.{◌≡◌, cond, ◌≢◌, ℕ, eqb, ℤ, pos}
use Rattle.model.specs.Codes.{Values, values, number}
use Rattle.model.specs.declared.Answer.{Answer}
use Rattle.model.specs.declared.Call.{Call}
use Rattle.model.specs.declared.Code.{Code}
use Rattle.model.specs.declared.Code.TheVariants.{Ok as E_OK}
use Rattle.model.specs.declared.Outcome.TheVariants.{Finished, Waits}
use Rattle.record.specs.declared.State.{State}
use Rattle.demands.specs.Runs.{ListsRun, ModelsRunAs, Interface}
use Rattle.demands.specs.Tables.{Tables}
use Rattle.entry.specs.Entered.{Entered}
use Rattle.host_calls.specs.Calls.{call_of, answer_of}
use Rattle.host_calls.specs.declared.HostAnswer.{HostAnswer}
use Rattle.host_calls.specs.declared.HostCall.{HostCall}
use Rattle.host_record.specs.declared.HostRecord.{HostRecord}
use Rattle.linguastel.specs.Called.{Called}
use Rattle.linguastel_table.specs.TableCalled.{TableCalled}
use Rattle.table_entry.specs.TableEntered.{TableEntered}

-- Through the thin entry.
abbrev pub through_entry : Interface State Call Answer
through_entry = record { call_of = λ c. c; values_of = values; Steps = Entered }

-- What a host's answer is in document 01's numbers: the code where it is finished, kind 0, and else the place.
abbrev pub host_values : HostAnswer → Values
host_values x = record { kind = x.kind; code_or_place = cond (eqb x.kind 0) x.code (pos x.place); a = x.a; b = x.b; c = x.c }

-- It is what the answer was before it was written for the host.
abbrev pub HostValues : Type 0
HostValues = (x : Answer) → host_values (answer_of x) ≡ values x

-- A host that looks at the code alone: E_OK's number says that the call is finished with E_OK, and a call that waits has no code's number.
pub record CodeTells (x : Answer) : Type 0 where
  pub done : (answer_of x).code ≡ number E_OK → x.outcome ≡ Finished E_OK
  pub waiting : (place : ℕ) → x.outcome ≡ Waits place → (code : Code) → (answer_of x).code ≢ number code

abbrev pub CodesTell : Type 0
CodesTell = (x : Answer) → CodeTells x

-- Through the function that hosts call, a call of number 0 being the tick.
abbrev pub for_hosts : Interface HostRecord HostCall HostAnswer
for_hosts = record { call_of = call_of; values_of = host_values; Steps = Called }

-- ── Tables of calls (document 02, item 2) ──

abbrev pub tables_through_entry : Tables through_entry Code
tables_through_entry = record { number_of = number; Makes = TableEntered }

abbrev pub tables_for_hosts : Tables for_hosts ℤ
tables_for_hosts = record { number_of = λ code. code; Makes = TableCalled }

-- ── Lists run ──

-- The same of steps through the entry and of hosts' calls; and there are runs in the host's numbers.
abbrev pub ListsRunThroughEntry : Type 1
ListsRunThroughEntry = ListsRun Entered

abbrev pub ListsRunForHosts : Type 1
ListsRunForHosts = ListsRun Called

abbrev pub ModelsRunForHosts : Type 0
ModelsRunForHosts = ModelsRunAs call_of answer_of
