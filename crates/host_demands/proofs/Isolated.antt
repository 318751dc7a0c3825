-- Demand 3 where the record stays where it is: the claim holds however calls are made (crate demands).
use Rattle.model.specs.Codes.{number}
use Rattle.record.specs.Step.{state_engine}
use Rattle.record.proofs.Equal.{state_lawful}
use Rattle.host_calls.specs.Calls.{call_of, answer_of}
use Rattle.host_record.specs.Record.{host_engine}
use Rattle.host_record.proofs.Record.{host_lawful}
use Rattle.demands.proofs.Isolated.{isolated, isolated_from_empty, isolated_many}
use Rattle.demands.proofs.Tables.{tables_follow, isolated_with_tables, isolated_with_tables_from_empty, isolated_many_with_tables}
use Rattle.host_demands.specs.Isolated.{IsolatedThroughEntry, IsolatedManyThroughEntry, IsolatedForHosts, IsolatedForHostsFromEmpty, IsolatedManyForHosts}
use Rattle.host_demands.specs.Isolated.{TablesFollowThroughEntry, TablesFollowForHosts, IsolatedWithTablesThroughEntry, IsolatedManyWithTablesThroughEntry, IsolatedWithTablesForHosts, IsolatedWithTablesForHostsFromEmpty, IsolatedManyWithTablesForHosts}
use Rattle.host_demands.proofs.Runs.{entry_faithful, hosts_faithful, entry_tables, hosts_tables}

pub isolated_through_entry : IsolatedThroughEntry
isolated_through_entry = isolated state_lawful entry_faithful

pub isolated_many_through_entry : IsolatedManyThroughEntry
isolated_many_through_entry = isolated_many state_lawful entry_faithful

pub isolated_for_hosts : IsolatedForHosts
isolated_for_hosts = isolated host_lawful hosts_faithful

pub isolated_for_hosts_from_empty : IsolatedForHostsFromEmpty
isolated_for_hosts_from_empty = isolated_from_empty host_lawful hosts_faithful

pub isolated_many_for_hosts : IsolatedManyForHosts
isolated_many_for_hosts = isolated_many host_lawful hosts_faithful

-- ── With tables ──

pub tables_follow_through_entry : TablesFollowThroughEntry
tables_follow_through_entry = tables_follow state_engine (λ c. c) (λ x. x) (λ code. code)

pub tables_follow_for_hosts : TablesFollowForHosts
tables_follow_for_hosts = tables_follow host_engine call_of answer_of number

pub isolated_with_tables_through_entry : IsolatedWithTablesThroughEntry
isolated_with_tables_through_entry = isolated_with_tables state_lawful entry_faithful entry_tables

pub isolated_many_with_tables_through_entry : IsolatedManyWithTablesThroughEntry
isolated_many_with_tables_through_entry = isolated_many_with_tables state_lawful entry_faithful entry_tables

pub isolated_with_tables_for_hosts : IsolatedWithTablesForHosts
isolated_with_tables_for_hosts = isolated_with_tables host_lawful hosts_faithful hosts_tables

pub isolated_with_tables_for_hosts_from_empty : IsolatedWithTablesForHostsFromEmpty
isolated_with_tables_for_hosts_from_empty = isolated_with_tables_from_empty host_lawful hosts_faithful hosts_tables

pub isolated_many_with_tables_for_hosts : IsolatedManyWithTablesForHosts
isolated_many_with_tables_for_hosts = isolated_many_with_tables host_lawful hosts_faithful hosts_tables
