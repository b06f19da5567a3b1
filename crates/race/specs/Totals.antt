-- What a race tells in the end.
use Rattle.std.specs.Prelude.{◌≡◌, ℕ, ◌*◌, ◌≤◌, IfSome}
use Rattle.domain.specs.declared.domain.cleanup.Totals as domain
use Rattle.race.specs.declared.course.Course.{Course}
use Rattle.race.specs.declared.workers.Workers.{Workers}
use Rattle.race.specs.declared.totals.RaceTotals.{RaceTotals}
use Rattle.race.specs.Workers.{HaveRaced}
use Rattle.race.specs.Endings.{CleansUp}

-- the domain tells what the workers have counted
pub record Agrees (t : RaceTotals) (d : domain.Totals) : Type 0 where
  pub opened : d.opened ≡ t.opened
  pub closed : d.closed ≡ t.closed
  pub queued : d.queued ≡ t.queued
  pub finished : d.finished ≡ t.finished

-- of so many rounds: each lease was released, no more callbacks were queued than versions installed, one at most in each round, and where the domain was taken down it tells the same counts
pub record AreCounts (rounds : ℕ) (t : RaceTotals) : Type 0 where
  pub closed : t.closed ≡ t.opened
  pub versions : t.versions ≤ rounds
  pub queued : t.queued ≤ t.versions
  pub domain : IfSome t.domain (Agrees t)

-- And each of so many readers made one lease in each round. These are the counts of workers that have raced, and what their domain answered when it was to be taken down
pub record AreTotals (readers rounds : ℕ) (t : RaceTotals) : Type 0 where
  pub counts : AreCounts rounds t
  pub opened : t.opened ≡ readers * rounds
  pub course : Course
  pub seats : course.desk.seats ≡ readers
  pub rounds_are : course.rounds ≡ rounds
  pub workers : Workers
  pub raced : HaveRaced course workers
  pub updated : (t.versions ≡ workers.updater.versions) × (t.queued ≡ workers.updater.queued) × (t.finished ≡ workers.updater.finished)
  pub cleans : CleansUp course workers t.domain
