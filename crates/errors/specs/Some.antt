-- The contracts promise for every view that shows what the code is handed. There always is one, so nothing is promised of nothing.
use Rattle.model.specs.Calls.{View}
use Rattle.model.specs.declared.Call.{Call}
use Rattle.errors.specs.declared.Seen.{Seen}
use Rattle.errors.specs.Seen.{Shows}

pub record SomeView (c : Call) (y : Seen) : Type 0 where
  pub view : View
  pub shows : Shows view c y

abbrev pub EverySeenShows : Type 0
EverySeenShows = (c : Call) (y : Seen) → SomeView c y
