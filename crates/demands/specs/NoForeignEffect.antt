-- For customers: a carrier's calls leave alone whatever isn't the carrier's and doesn't stand in its objects.
use Rattle.std.specs.Prelude.{◌≡◌, Bool, false, not, ◌&&◌, ◌||◌, List, T, eqb}
use Rattle.std.proofs.Math.Option.{map, get_or}
use Rattle.lists.specs.Lists.{Each}
use Rattle.rows.specs.Runs.{Run}
use Rattle.rows.specs.Program as Program
use Rattle.model.specs.Rows.{Key, task, suspension, queue, mailbox, message, Row}
use Rattle.model.specs.Waits.{object_named}
use Rattle.model.specs.Engine.{Engine}
use Rattle.model.specs.Isolation.{Placed, CallOf, Carrier, owns, Own, Disjoint}
use Rattle.model.specs.declared.Wait.{Wait}
use Rattle.demands.specs.Runs.{Interface}

-- Whether a task with this wait waits at one of the carrier's objects.
abbrev pub waits_at_object : Carrier → Wait → Bool
waits_at_object a w = get_or (map (owns a) (object_named w)) false

-- The rows that a carrier's calls may change: its own, and those of the tasks and messages that stand in its objects. The suspension of a task that isn't its
-- own is not among them.
abbrev pub may_change : Carrier → Program.Rows Row → Key → Bool
may_change a m (task t) = a.tasks t || waits_at_object a (m (task t)).wait
may_change a m (suspension t) = a.tasks t
may_change a m (queue q) = a.queues q
may_change a m (mailbox b) = a.mailboxes b
may_change a m (message g) = a.messages g || not (eqb (m (message g)).queued_in 0) && a.mailboxes (m (message g)).queued_in

-- The record s became u.
pub record OwnEffect {S : Type 0} (E : Engine S) (a : Carrier) (s u : S) : Type 0 where
  -- Every other row is as it was, and so is the counter.
  pub other_rows : (k : Key) → T (not (may_change a (E.abs s).rows k)) → (E.abs u).rows k ≡ (E.abs s).rows k
  pub environment : (E.abs u).environment ≡ (E.abs s).environment
  -- So each row of another carrier, one that has no number in common and whose waiting tasks and queued messages stand only in its own objects, is as it was.
  pub other_carrier : (b : Carrier) → Disjoint a b → Placed (Own b) (E.abs s).rows → (k : Key) → Own b k → (E.abs u).rows k ≡ (E.abs s).rows k

-- Any list of the carrier's calls, or one call.
abbrev pub NoForeignEffect : {S C A : Type 0} → Engine S → Interface S C A → Type 0
NoForeignEffect {S} {C} {A} E F =
    (s : S) → E.Sound s
    → (a : Carrier) → Placed (Own a) (E.abs s).rows
    → (calls : List C) → Each (λ c. CallOf (Own a) (F.call_of c)) calls
    → (last : S) (answers : List A) → Run F.Steps s calls last answers
    → OwnEffect E a s last
