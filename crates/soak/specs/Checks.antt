-- What a thread counts of what it found.
use Rattle.std.specs.Prelude.{◌≡◌, ℕ, ◌%◌, ◌==◌, ◌&&◌, nat_lt, not, Bool, Option, Some, None, slice_index_or, slice_set}
use Rattle.sections.specs.Views.{CookieView}
use Rattle.sections.specs.Calls.{GivesCookie}
use Rattle.domain.specs.Views.{CpuView}
use Rattle.domain.specs.Waiting.{Polls, Synchronizes}
use Rattle.soak.specs.declared.counts.Counts.{Counts}
use Rattle.soak.specs.declared.driving.Ran.{Ran}
use Rattle.soak.specs.declared.tables.TableSight.{TableSight}
use Rattle.soak.specs.declared.worker.Job.{Job}
use Rattle.soak.specs.declared.worker.FoundVersion.{FoundVersion}
use Rattle.soak.specs.declared.worker.Worker.{Worker}
use Rattle.soak.specs.Counts.{one_more, more_if}

-- the number of the job whose turn it is on this job's processor
abbrev pub turn_of : Job → Ran → ℕ
turn_of job r = slice_index_or r.turns (job.processor % 7) 0

-- one job more was run, also of its processor, and one more was misplaced where it was not its turn
abbrev pub counted : Job → Ran → Ran
counted job r = record {
  turns = slice_set r.turns (job.processor % 7) (one_more (turn_of job r));
  counts = record r.counts { run = one_more r.counts.run; misplaced = more_if (not (job.number == turn_of job r)) r.counts.misplaced };
}

-- one version more was too old where its age was two or more, and of several pieces where one of its words is not its number
abbrev pub judged : FoundVersion → Counts → Counts
judged s c = record c {
  stale = more_if (nat_lt 1 s.age) c.stale;
  torn = more_if (not ((s.first == s.version) && (s.last == s.version))) c.torn;
}

-- one table more was too old where a later one had been found before, and of several pieces where it was not whole; or none was found
abbrev pub judged_table : Option TableSight → ℕ → Counts → Counts
judged_table None last c = c
judged_table (Some s) last c = record c {
  stale = more_if (nat_lt s.number last) c.stale;
  torn = more_if (not s.whole) c.torn;
}

-- one use more, and of a device that was back where it was one; or there was no device
abbrev pub judged_use : Option Bool → Counts → Counts
judged_use None c = c
judged_use (Some here) c = record c { used = one_more c.used; stale = more_if (not here) c.stale }

-- one call more was refused
abbrev pub IsRefused : Counts → Counts → Type 0
IsRefused c c' = c' ≡ record c { refused = one_more c.refused }

-- the cookie was polled, and one wait more was too short where it was not done
pub record Checks (cookie : CookieView) (w w' : Worker) : Type 0 where
  pub done : Bool
  pub polls : Polls done cookie w.cpu w'.cpu
  pub counts : w'.counts ≡ record w.counts { early = more_if (not done) w.counts.early }

-- a cookie was given, a grace period was waited for and counted behind that, and then the cookie was polled
pub record WaitsAndChecks (w w' : Worker) : Type 0 where
  pub cookie : CookieView
  pub given : CpuView Job
  pub gives : GivesCookie w.cpu.cpu given.cpu cookie
  pub waited : Worker
  pub waits : Synchronizes given waited.cpu
  pub counts : waited.counts ≡ record w.counts { waited = one_more w.counts.waited }
  pub checks : Checks cookie waited w'
