-- Giving the sign opens no reading, and the driver leaves none open.
use Rattle.std.proofs.Common.{sym, ◌∙◌}
use Rattle.driver.proofs.CallerLemmas.{kept_loading, idle_kept}
use Rattle.refused_tests.proofs.tests.serving.drive.Goals as goal

pub give-requires-clause-here : goal.give-requires-clause-here
give-requires-clause-here g c = c.queue-are_queued.ensures.idle.here

pub serve-served-requires-clause-none : goal.serve-served-requires-clause-none
serve-served-requires-clause-none g c = (idle_kept c.args.domain.now c.queue-are_queued.new.cpu c.give.new.cpu c.queue-are_queued.ensures.idle (kept_loading _ _ c.give.ensures.acts)).idle.closed

pub returns-clause-idle : goal.returns-clause-idle
returns-clause-idle g c = record { here = c.serve-served.ensures.here; closed = c.serve-served.ensures.none }

pub returns-clause-same : goal.returns-clause-same
returns-clause-same g c =
    let told = (idle_kept c.args.domain.now c.queue-are_queued.new.cpu c.give.new.cpu c.queue-are_queued.ensures.idle (kept_loading _ _ c.give.ensures.acts)).number in
    c.serve-served.ensures.same.cpu.3 ∙ (sym told ∙ c.queue-are_queued.ensures.same)
