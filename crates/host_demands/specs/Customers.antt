-- What follows for customers, through the thin entry and for hosts: the claims of crate demands where the record stays where it is.
use Rattle.record.specs.Step.{state_engine}
use Rattle.host_record.specs.Record.{host_engine}
use Rattle.demands.specs.NoLostWakeUp.{NoLostWakeUp}
use Rattle.demands.specs.TimeOuts.{TimeOutsKept}
use Rattle.demands.specs.StoredPair.{FetchGivesPair}
use Rattle.demands.specs.NoForeignEffect.{NoForeignEffect}
use Rattle.host_demands.specs.Runs.{through_entry, for_hosts}

abbrev pub NoLostWakeUpThroughEntry : Type 0
NoLostWakeUpThroughEntry = NoLostWakeUp state_engine through_entry

abbrev pub TimeOutsKeptThroughEntry : Type 0
TimeOutsKeptThroughEntry = TimeOutsKept state_engine through_entry

abbrev pub FetchGivesPairThroughEntry : Type 0
FetchGivesPairThroughEntry = FetchGivesPair state_engine through_entry

abbrev pub NoForeignEffectThroughEntry : Type 0
NoForeignEffectThroughEntry = NoForeignEffect state_engine through_entry

-- ── In the host's numbers ──

abbrev pub NoLostWakeUpForHosts : Type 0
NoLostWakeUpForHosts = NoLostWakeUp host_engine for_hosts

abbrev pub TimeOutsKeptForHosts : Type 0
TimeOutsKeptForHosts = TimeOutsKept host_engine for_hosts

abbrev pub FetchGivesPairForHosts : Type 0
FetchGivesPairForHosts = FetchGivesPair host_engine for_hosts

abbrev pub NoForeignEffectForHosts : Type 0
NoForeignEffectForHosts = NoForeignEffect host_engine for_hosts
