-- Nobody waits for what is there: every record that is reached is sound, and a sound record says so.
use mathlib.Core.Path.{ap}
use mathlib.Core.Bool.{not}
use mathlib.Core.List.Memᴰ
use mathlib.Core.List.{List, [], ◌∷◌, Memᴰ as In}
use Prim.Native.Nat.{ℕ}
use lib.Dec.{T}
use Rattle.lists.specs.Lists.{empty}
use Rattle.rows.specs.Program as Program
use Rattle.model.specs.Rows.{Row}
use Rattle.model.specs.Engine.{Engine, Lawful}
use Rattle.model.specs.WellFormed.{WellFormedRows}
use Rattle.model.specs.Waits.{senders_of, receivers_of, waiters_of, wait_queue}
use Rattle.record.specs.Step.{state_engine}
use Rattle.record.proofs.Equal.{state_lawful}
use Rattle.demands.specs.Runs.{Interface, by_value}
use Rattle.demands.specs.NoLostWakeUp.{NobodyWaitsForWhatIsThere, NoLostWakeUp}
use Rattle.demands.proofs.Runs.{Faithful, by_value_faithful, run_follows}

not_empty : {t : ℕ} {l : List ℕ} → In t l → T (not (empty l))
unfolding empty
not_empty {l = []} i = absurd (Memᴰ.not-nil i)
not_empty {l = x ∷ l} i = tt

nobody_waits : {m : Program.Rows Row} → WellFormedRows m → NobodyWaitsForWhatIsThere m
nobody_waits w = record {
  receivers = λ t q i. (w.queues q).receivers (not_empty i);
  senders = λ t q i. (w.queues q).senders (not_empty i);
  waiters = λ t b i. (w.mailboxes b).waiters (not_empty i);
  receiver_stands = λ t q end e. w.waiting.in_named t (receivers_of q) (ap wait_queue e);
  sender_stands = λ t q end word e. w.waiting.in_named t (senders_of q) (ap wait_queue e);
  waiter_stands = λ t b end e. w.waiting.in_named t (waiters_of b) (ap wait_queue e);
}

pub no_lost_wake_up : {S C A : Type 0} {E : Engine S} → Lawful E → {F : Interface S C A} → Faithful E F → NoLostWakeUp E F
no_lost_wake_up lawful faithful s sound calls last answers p = nobody_waits (lawful.well_formed last (run_follows faithful sound p).sound).rows

pub states_lose_no_wake_up : NoLostWakeUp state_engine (by_value state_engine)
states_lose_no_wake_up = no_lost_wake_up state_lawful (by_value_faithful state_engine)
