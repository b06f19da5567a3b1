-- Asking for a grace period opens no reading.
use Rattle.std.proofs.Common.{refl}
use Rattle.domain.proofs.CallerLemmas.{none_still, same_plain}
use Rattle.driver_tests.proofs.tests.clocks.drive_by_clock.Goals as goal

pub serve_with-served-requires-clause-none : goal.serve_with-served-requires-clause-none
serve_with-served-requires-clause-none g c = none_still c.args.cpu c.start_poll.new.cpu (same_plain _ _ c.args.cpu c.start_poll.new.cpu c.start_poll.ensures.acts _ refl refl (λ s. refl)) c.requires.cpu.closed
