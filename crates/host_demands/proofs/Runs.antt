-- The contract of a call through the entry is the step's; that of a host's call is the step's, its call and its answer written otherwise.
use mathlib.Core.Path.{◌≡◌, refl, sym, ap, ◌∙◌}
use mathlib.Core.Logic.{◌≢◌, ◌⊎◌, inl, inr, ⊎_elim}
use Prim.Native.Nat.{ℕ, ◌≤◌}
use native.Mathlib.Omega.{arith}
use lib.IntN.{pos, nat_abs}
use Rattle.model.specs.Codes.{values, number}
use Rattle.model.specs.declared.Code.{Code}
use Rattle.model.specs.declared.Code.TheVariants.{Ok, Sys, Par, Id, Ctx, Iluse, Obj, Noexs, Qovr, Rlwai, Tmout, Dlt}
use Rattle.model.specs.declared.Outcome.{Outcome}
use Rattle.model.specs.declared.Outcome.TheVariants.{Finished, Waits}
use Rattle.record.specs.Step.{state_engine}
use Rattle.host_record.specs.Record.{host_engine}
use Rattle.demands.proofs.Runs.{Faithful, by_value_faithful, lists_run, models_run_as}
use Rattle.demands.proofs.Tables.{FaithfulTables}
use Rattle.entry.specs.Entered.{Entered}
use Rattle.host_calls.specs.Calls.{call_of, code_of, answer_of}
use Rattle.linguastel.specs.Called.{Called}
use Rattle.host_demands.specs.Runs.{through_entry, host_values, HostValues, CodesTell, for_hosts, tables_through_entry, tables_for_hosts, ListsRunThroughEntry, ListsRunForHosts, ModelsRunForHosts}

pub host_values_are : HostValues
unfolding answer_of
host_values_are x = go x.outcome x.a x.b x.c
  where
    go : (outcome : Outcome) (a b c : ℕ) → host_values (answer_of (record { outcome = outcome; a = a; b = b; c = c })) ≡ values (record { outcome = outcome; a = a; b = b; c = c })
    go (Finished code) a b c = refl
    go (Waits place) a b c = refl

-- ── The code alone ──

-- Every code's number but that of E_OK is -5 or below.
far_from_0 : (code : Code) → (code ≡ Ok) ⊎ (5 ≤ nat_abs (number code))
far_from_0 Ok = inl refl
far_from_0 Sys = inr (omega arith)
far_from_0 Par = inr (omega arith)
far_from_0 Id = inr (omega arith)
far_from_0 Ctx = inr (omega arith)
far_from_0 Iluse = inr (omega arith)
far_from_0 Obj = inr (omega arith)
far_from_0 Noexs = inr (omega arith)
far_from_0 Qovr = inr (omega arith)
far_from_0 Rlwai = inr (omega arith)
far_from_0 Tmout = inr (omega arith)
far_from_0 Dlt = inr (omega arith)

ok_by_number : (code : Code) → number code ≡ pos 0 → code ≡ Ok
ok_by_number code e = ⊎_elim (λ ok. ok) (λ far. let h = ap nat_abs e in absurd (omega arith)) (far_from_0 code)

never_1 : (code : Code) → nat_abs (number code) ≢ 1
never_1 code e = ⊎_elim (λ ok. let h = sym (ap (λ c. nat_abs (number c)) ok) ∙ e in absurd (omega arith)) (λ far. absurd (omega arith)) (far_from_0 code)

pub codes_tell : CodesTell
unfolding answer_of
codes_tell x = record { done = done x.outcome; waiting = λ place e code same. never_1 code (ap nat_abs (sym same ∙ ap code_of e)) }
  where
    done : (outcome : Outcome) → code_of outcome ≡ pos 0 → outcome ≡ Finished Ok
    done (Finished code) e = ap Finished (ok_by_number code e)
    done (Waits place) e = let h = ap nat_abs e in absurd (omega arith)

abbrev pub entry_faithful : Faithful state_engine through_entry
entry_faithful = by_value_faithful state_engine

abbrev pub hosts_faithful : Faithful host_engine for_hosts
hosts_faithful = record { answer_of = answer_of; values_are = host_values_are; steps = λ h. h }

-- ── Tables of calls ──

pub entry_tables : FaithfulTables entry_faithful tables_through_entry
entry_tables = record { code_of = λ code. code; makes = λ h. h }

pub hosts_tables : FaithfulTables hosts_faithful tables_for_hosts
hosts_tables = record { code_of = number; makes = λ h. h }

-- ── Lists run ──

pub lists_run_through_entry : ListsRunThroughEntry
lists_run_through_entry = lists_run Entered

pub lists_run_for_hosts : ListsRunForHosts
lists_run_for_hosts = lists_run Called

pub models_run_for_hosts : ModelsRunForHosts
models_run_for_hosts = models_run_as call_of answer_of
