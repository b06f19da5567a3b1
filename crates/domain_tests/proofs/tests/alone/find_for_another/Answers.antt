-- Neither the cookie nor a poll opens a reading.
use Rattle.std.proofs.Common.{refl}
use Rattle.domain.proofs.CallerLemmas.{none_still, same_plain}
use Rattle.domain_tests.proofs.ForSets.{none_polled}
use Rattle.domain_tests.proofs.tests.alone.find_for_another.Goals as goal

pub synchronize-requires-clause-none : goal.synchronize-requires-clause-none
synchronize-requires-clause-none g c = none_polled _ _ _ c.cookie.new.self c.poll_member-early.new.cpu c.poll_member-early.ensures.acts
    (none_still c.args.updater.now c.cookie.new.self (same_plain _ _ c.args.updater.now c.cookie.new.self c.cookie.ensures.acts _ refl refl (λ s. refl)) c.requires.updater.1)
