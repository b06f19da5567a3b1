-- Three turns, each with the answer that comes next.
use Rattle.std.proofs.Common.{subst}
use Rattle.domain.specs.Turns.{AdvancesIn}
use Rattle.srcubench.proofs.driving.drive_period.Goals as goal

pub returns-in-Ended-clause-drives : goal.returns-in-Ended-clause-drives
returns-in-Ended-clause-drives g c = record {
  started = c.start.new.cpu;
  flipped = c.answer.new.cpu;
  at_start = c.in_default.field-0;
  index = c.in-Flipped.field-0;
  at_end = c.in-Ended.field-0;
  starts = c.in_default.ensures.starts;
  flips = subst (λ a. AdvancesIn c.start.new.cpu a c.answer.new.cpu) c.in-Flipped.is c.in_ok-other.ensures.advances;
  ends = subst (λ a. AdvancesIn c.answer.new.cpu a c.answer-2.new.cpu) c.in-Ended.is c.in_ok-other-2.ensures.advances;
}
