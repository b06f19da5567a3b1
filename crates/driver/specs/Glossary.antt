-- The words of `driver`, for files that cite them.
pub use Rattle.driver.specs.Counts.{IsCount, periods_in}
pub use Rattle.driver.specs.Pools.{IsIdle, IsLent}
pub use Rattle.driver.specs.Serving.{Counts, EndsInVain, EndsInVainFrom, HasStarted, LooksAfter, LooksAfterAll, Round, Rounds, Works, WorksFrom, jobs_of}
pub use Rattle.driver.specs.Signs.{IsDoneBy, MayPoll, Stays, StopView, WasGiven, Word}
pub use Rattle.driver.specs.Works.{Closes, IsKept, MayGive, Opens}
pub use Rattle.driver.specs.declared.counts.Served.{Served}
