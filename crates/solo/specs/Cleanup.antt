-- Taking a domain in one hand down: what is told of it in the end, and why it is refused, in the words of `domain`.
use Rattle.std.specs.Prelude.{sum}
use Rattle.domain.specs.declared.domain.cleanup.InUse.{InUse}
use Rattle.domain.specs.declared.domain.cleanup.Totals.{Totals}
use Rattle.domain.specs.Cleanup.{Whole, IsUnused, AreTotals, IsCause}
use Rattle.solo.specs.Courses.{Course}

-- all that was done
abbrev pub whole_of : Course → Whole
whole_of c = record { history = c.standing.history; queued = sum c.queued; finished = sum c.finished }

-- nothing is open, runs or waits; these are the counts of all that was done
pub record IsTakenDown (c : Course) (t : Totals) : Type 0 where
  pub unused : IsUnused (whole_of c)
  pub totals : AreTotals (whole_of c) t

-- why the domain is in use: the first cause that holds. No processor is missing, since all are in one hand
abbrev pub IsInUse : Course → InUse → Type 0
IsInUse c = IsCause (whole_of c)
