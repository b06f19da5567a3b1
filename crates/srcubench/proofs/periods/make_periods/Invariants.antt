-- So far as many periods went by as there were rounds.
use Rattle.std.proofs.Common.{◌≡◌}
use Rattle.scan.specs.Progress.{at_work}
use Rattle.srcubench.specs.Periods.{CarriesPeriods}
use Rattle.srcubench.proofs.periods.make_periods.Given as goal

abbrev pub invariant-loop : goal.invariant-loop
invariant-loop g l = record {
  carried : CarriesPeriods l.counter (at_work l.initial.needs l.initial.engine) l.ended (at_work l.needs l.engine);
  same : l.engine.seat.processors ≡ l.initial.engine.seat.processors;
}
