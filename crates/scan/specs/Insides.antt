-- How the fields of what carries grace periods, and of an engine, are seen, and what is always true of them.
use Rattle.scan.specs.declared.engine.Engine.TheInside as engine
use Rattle.scan.specs.declared.grace_periods.GracePeriods.TheInside as periods
use Rattle.scan.specs.Places.{rests_at, IsReady}
use Rattle.scan.specs.Progress.{ScanView, AtWork, at_work}

module _ {A : Type 0} where
  abbrev pub view_of_periods : periods.Inside A → ScanView
  view_of_periods e = rests_at e.seat e.place

  abbrev pub IsCarried : periods.Inside A → Type 0
  IsCarried e = IsReady e.seat e.place

  abbrev pub view_of_engine : {N : Type 0} → engine.Inside N A → AtWork N
  view_of_engine e = at_work e.needs e.periods
