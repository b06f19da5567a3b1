-- Each answer until now led on.
use Rattle.scan.specs.Places.{viewed, IsReady}
use Rattle.scan.proofs.Carrying.{IsOnTheWay, left_of}
use Rattle.scan.proofs.period.carry_on.Given as goal

abbrev pub invariant-loop-answer : goal.invariant-loop-answer
invariant-loop-answer g l = record {
  ready : IsReady l.seat l.place;
  way : IsOnTheWay g.N.Needs.loads (viewed l.fn.seat l.fn.needs l.fn.place) (viewed l.seat l.needs l.place);
}

abbrev pub decreases-loop-answer : goal.decreases-loop-answer
decreases-loop-answer g l = left_of l.seat.changes
