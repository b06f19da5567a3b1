-- The words of `domain`, for files that cite them.
pub use Rattle.domain.specs.Acting.{Act, Acts, ActsAs, Adds, AreOf, AskFor, Count, GoesOn, MakesEvents, PutsAndThen, QueuesNone, asks_for, asks_whether, begins, ends, finds, finishes, loads, makes, notes, nothing, puts, takes}
pub use Rattle.domain.specs.Barriers.{IsReceiptOf, PollsThrough, PollsUntilDone, rows_of_loads}
pub use Rattle.domain.specs.Calling.{CallsIn, RefusesCall}
pub use Rattle.domain.specs.Cleanup.{AreTotals, IsCause, IsHandedBack, IsJudged, IsLeft, IsNothingLeft, IsUnused, is_there, missing_of, open_count, whole_of}
pub use Rattle.domain.specs.Counts.{AreAllThere, AreBack, AreDeedsOf, CountsCalls, CountsHistory, CountsInAll, CountsSections, HasHeard, HasMet, HaveMet, IsBack, IsHistoryOf, IsJoined}
pub use Rattle.domain.specs.Limited.{PollsInVain, TimesOut}
pub use Rattle.domain.specs.Loads.{FindsCount, IsBetween, LoadsCounters, LoadsEach, LoadsRow, LoadsSums, count_of}
pub use Rattle.domain.specs.Making.{IsMade, idle_engine, joined, new_bay, new_cpu}
pub use Rattle.domain.specs.Meetings.{EngineMeets, IsAllOf, JoinsTree, MeetsHere, TalliesMeet, TreeMeets}
pub use Rattle.domain.specs.Parts.{AreAllTurns, CallsCover, Each, EachBecomes, EngineCovers, IsAdmitted, IsBeside, IsHeard, IsTurned, NeedsCover, TurnCovers}
pub use Rattle.domain.specs.Reading.{LoadsAll, ReadsAndEnds}
pub use Rattle.domain.specs.Turns.{AdvancesIn, CarriesOnIn, EndsOrWaits, FindsBusyIn, FindsExhaustedIn, HasCome, HasStarted, IsDue, IsNotStarted, IsRefused, Lends, SaysAtLast, SaysOf, SaysWhy, SaysWhyNone, StartsIn, StepsIn}
pub use Rattle.domain.specs.Views.{CpuView, DomainView, Engine, IsEngineOf, IsOf, IsSameProcessor, Stays, Working, callbacks_of, with_calls, with_cpu}
pub use Rattle.domain.specs.Waiting.{HasNoneOpen, HasNoted, LoadsNeed, RoundsThrough, StartsPoll, Synchronizes, Turns, TurnsAndPolls, WaitedFor, WaitsInVain}
pub use Rattle.domain.specs.Watching.{CountsEach, IsNoLess, NamesHolders, Snaps, Tells, WasBalanced, WasEmptyIn, Watches, differing, holder_at}
pub use Rattle.domain.specs.Writers.{PutsAndAsks}
pub use Rattle.domain.specs.declared.domain.cleanup.InUse.{InUse}
pub use Rattle.domain.specs.declared.domain.cleanup.Totals.{Totals}
pub use Rattle.domain.specs.declared.domain.loads.Counter.{Counter}
