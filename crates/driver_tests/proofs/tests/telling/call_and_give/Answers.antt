-- Neither call opens a reading.
use Rattle.std.proofs.Common.{sym, ◌∙◌}
use Rattle.driver.proofs.Keeping.{kept_loading, idle_kept}
use Rattle.driver_tests.proofs.tests.telling.call_and_give.Goals as goal

pub give-requires-clause-here : goal.give-requires-clause-here
give-requires-clause-here g c = c.queue-queued.ensures.idle.here

pub returns-then-queued : goal.returns-then-queued
returns-then-queued g c = let k = idle_kept c.args.domain.now c.queue-queued.new.cpu c.give.new.cpu c.queue-queued.ensures.idle (kept_loading _ _ c.give.ensures.acts) in
    record { idle = k.idle; number = sym c.queue-queued.ensures.same ∙ k.number }

pub returns-else-queued : goal.returns-else-queued
returns-else-queued g c = let k = idle_kept c.args.domain.now c.queue-queued.new.cpu c.give.new.cpu c.queue-queued.ensures.idle (kept_loading _ _ c.give.ensures.acts) in
    record { idle = k.idle; number = sym c.queue-queued.ensures.same ∙ k.number }
