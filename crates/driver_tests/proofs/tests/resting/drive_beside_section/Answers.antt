-- Asking for a grace period opens no reading.
use Rattle.std.proofs.Common.{refl}
use Rattle.domain.proofs.CallerLemmas.{none_still, same_plain}
use Rattle.driver_tests.proofs.tests.resting.drive_beside_section.Goals as goal

pub serve_asleep-requires-clause-idle : goal.serve_asleep-requires-clause-idle
serve_asleep-requires-clause-idle g c = record {
  here = c.start_poll.ensures.here;
  closed = none_still c.args.cpu c.start_poll.new.cpu (same_plain _ _ c.args.cpu c.start_poll.new.cpu c.start_poll.ensures.acts _ refl refl (λ s. refl)) c.requires.idle.closed;
}
