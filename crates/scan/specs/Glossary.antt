-- The words of `scan`, for files that cite them.
pub use Rattle.scan.specs.Needed.{FindsNeed}
pub use Rattle.scan.specs.Places.{BeganScan, HasPassed, InLocks, InUnlocks, IsAt, IsHalfFlipped, IsReady, IsScanning, Moves, began, rests_at, seen_at_load, so_far, standing_at, viewed, wanted}
pub use Rattle.scan.specs.Progress.{AdvancesThrough, AdvancesTo, AtWork, CarriesOn, FindsExhausted, GetsOn, GoesOn, HasScanned, IsStepAt, NeedsLoaded, Paces, ScanView, Shows, Stage, StartsTo, StepsTo, at_work, counter_loads, is_counter_load, known_by, new_engine, rested, standing_of, with_seat}
pub use Rattle.scan.specs.Refusals.{refusal_of}
pub use Rattle.scan.specs.Rows.{MovesBy, MovesThrough, MovesUntil, Stand}
pub use Rattle.scan.specs.Standings.{Counts, FirstLoaded, IsOutOfPeriods, IsWithin, Says, Standing, StepsThrough, WaitsFor, WasOpenIn, changes_for, changes_so_far, current, events_of, leads_on, not_current, number_at_rest, steps_for}
pub use Rattle.scan.specs.Stations.{Drives, FindsBusy, GivesBack, IsNotDriven, IsNotStarted, IsOfStation, IsWithinLimit, MayLie, StartsNone, Takes, TakesTurn, Turns}
pub use Rattle.scan.specs.declared.place.Place.{Place}
pub use Rattle.scan.specs.declared.progress.Pace.{Pace}
pub use Rattle.scan.specs.declared.progress.PeriodsExhausted.{PeriodsExhausted}
pub use Rattle.scan.specs.declared.progress.Progress.{Progress}
pub use Rattle.scan.specs.declared.refusals.AdvanceRefusal.{AdvanceRefusal}
pub use Rattle.scan.specs.declared.refusals.StartRefusal.{StartRefusal}
