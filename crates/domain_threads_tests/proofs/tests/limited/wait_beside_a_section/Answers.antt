-- A poll opens no reading.
use Rattle.std.proofs.Common.{refl}
use Rattle.domain.proofs.CallerLemmas.{none_still, same_plain}
use Rattle.domain_threads_tests.proofs.tests.limited.wait_beside_a_section.Goals as goal

pub synchronize_for-requires-clause-none : goal.synchronize_for-requires-clause-none
synchronize_for-requires-clause-none g c = none_still c.synchronize_for-waited.new.cpu c.poll-early.new.self (same_plain _ _ c.synchronize_for-waited.new.cpu c.poll-early.new.self c.poll-early.ensures.acts _ refl refl (λ s. refl)) c.synchronize_for-waited.ensures.still_none
