-- Demand 3 through the thin entry, and for hosts: the claim of crate demands where the record stays where it is.
use Rattle.record.specs.Step.{state_engine}
use Rattle.host_record.specs.Record.{host_engine}
use Rattle.model.specs.Codes.{number}
use Rattle.demands.specs.Isolated.{Isolated, IsolatedFromEmpty, IsolatedMany}
use Rattle.demands.specs.Tables.{TablesFollow, IsolatedWithTables, IsolatedWithTablesFromEmpty, IsolatedManyWithTables}
use Rattle.host_calls.specs.Calls.{call_of, answer_of}
use Rattle.host_demands.specs.Runs.{through_entry, for_hosts, tables_through_entry, tables_for_hosts}

abbrev pub IsolatedThroughEntry : Type 0
IsolatedThroughEntry = Isolated state_engine through_entry

abbrev pub IsolatedManyThroughEntry : Type 1
IsolatedManyThroughEntry = IsolatedMany state_engine through_entry

-- ── In the host's numbers ──

abbrev pub IsolatedForHosts : Type 0
IsolatedForHosts = Isolated host_engine for_hosts

-- From the record that `linguastel_unguarded_empty` leaves, nothing more is asked of it.
abbrev pub IsolatedForHostsFromEmpty : Type 0
IsolatedForHostsFromEmpty = IsolatedFromEmpty host_engine for_hosts

abbrev pub IsolatedManyForHosts : Type 1
IsolatedManyForHosts = IsolatedMany host_engine for_hosts

-- ── With tables (document 02, item 2) ──

-- What a table gives and leaves is the definition's, in code, state and every answer cell.
abbrev pub TablesFollowThroughEntry : Type 0
TablesFollowThroughEntry = TablesFollow state_engine (λ c. c) (λ x. x) (λ code. code)

abbrev pub TablesFollowForHosts : Type 0
TablesFollowForHosts = TablesFollow host_engine call_of answer_of number

abbrev pub IsolatedWithTablesThroughEntry : Type 0
IsolatedWithTablesThroughEntry = IsolatedWithTables tables_through_entry state_engine

abbrev pub IsolatedManyWithTablesThroughEntry : Type 1
IsolatedManyWithTablesThroughEntry = IsolatedManyWithTables tables_through_entry state_engine

abbrev pub IsolatedWithTablesForHosts : Type 0
IsolatedWithTablesForHosts = IsolatedWithTables tables_for_hosts host_engine

abbrev pub IsolatedWithTablesForHostsFromEmpty : Type 0
IsolatedWithTablesForHostsFromEmpty = IsolatedWithTablesFromEmpty tables_for_hosts host_engine

abbrev pub IsolatedManyWithTablesForHosts : Type 1
IsolatedManyWithTablesForHosts = IsolatedManyWithTables tables_for_hosts host_engine
