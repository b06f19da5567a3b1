-- In each round so far one version was installed, and one callback queued.
use Rattle.std.proofs.Common.{◌≡◌}
use Rattle.race.specs.Updaters.{IsUpdaterOf, Tells, MakesRounds}
use Rattle.race.proofs.updater.make_rounds.Given as goal

abbrev pub invariant-loop-round : goal.invariant-loop-round
invariant-loop-round g l = record {
  is : IsUpdaterOf l.course l.updater;
  tells : Tells l.updater;
  rounds : MakesRounds l.course l.round l.fn.updater l.updater;
  processor : l.updater.cpu.cpu.processor ≡ l.fn.updater.cpu.cpu.processor;
  versions : l.updater.versions ≡ l.round;
  queued : l.updater.queued ≡ l.round;
}
