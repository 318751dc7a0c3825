-- What follows for customers where the record stays where it is: the claims hold however calls are made (crate demands).
use Rattle.record.proofs.Equal.{state_lawful}
use Rattle.host_record.proofs.Record.{host_lawful}
use Rattle.demands.proofs.NoLostWakeUp.{no_lost_wake_up}
use Rattle.demands.proofs.TimeOuts.{time_outs_kept}
use Rattle.demands.proofs.StoredPair.{fetch_gives_pair}
use Rattle.demands.proofs.NoForeignEffect.{no_foreign_effect}
use Rattle.host_demands.specs.Customers.{NoLostWakeUpThroughEntry, TimeOutsKeptThroughEntry, FetchGivesPairThroughEntry, NoForeignEffectThroughEntry}
use Rattle.host_demands.specs.Customers.{NoLostWakeUpForHosts, TimeOutsKeptForHosts, FetchGivesPairForHosts, NoForeignEffectForHosts}
use Rattle.host_demands.proofs.Runs.{entry_faithful, hosts_faithful}

pub no_lost_wake_up_through_entry : NoLostWakeUpThroughEntry
no_lost_wake_up_through_entry = no_lost_wake_up state_lawful entry_faithful

pub time_outs_kept_through_entry : TimeOutsKeptThroughEntry
time_outs_kept_through_entry = time_outs_kept state_lawful entry_faithful

pub fetch_gives_pair_through_entry : FetchGivesPairThroughEntry
fetch_gives_pair_through_entry = fetch_gives_pair state_lawful entry_faithful

pub no_foreign_effect_through_entry : NoForeignEffectThroughEntry
no_foreign_effect_through_entry = no_foreign_effect state_lawful entry_faithful

pub no_lost_wake_up_for_hosts : NoLostWakeUpForHosts
no_lost_wake_up_for_hosts = no_lost_wake_up host_lawful hosts_faithful

pub time_outs_kept_for_hosts : TimeOutsKeptForHosts
time_outs_kept_for_hosts = time_outs_kept host_lawful hosts_faithful

pub fetch_gives_pair_for_hosts : FetchGivesPairForHosts
fetch_gives_pair_for_hosts = fetch_gives_pair host_lawful hosts_faithful

pub no_foreign_effect_for_hosts : NoForeignEffectForHosts
no_foreign_effect_for_hosts = no_foreign_effect host_lawful hosts_faithful
