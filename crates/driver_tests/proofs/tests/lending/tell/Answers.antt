-- Whether the sign is given or was before, no reading is opened by it.
use Rattle.driver.proofs.Keeping.{kept_loading, idle_kept}
use Rattle.driver_tests.proofs.tests.lending.tell.Goals as goal

pub give-requires-clause-here : goal.give-requires-clause-here
give-requires-clause-here g c = c.requires.idle.here

pub returns-then-not-given : goal.returns-then-not-given
returns-then-not-given g c = idle_kept c.args.domain.now c.args.cpu.now c.give.new.cpu c.requires.idle (kept_loading _ _ c.give.ensures.acts)

pub returns-else-not-given : goal.returns-else-not-given
returns-else-not-given g c = idle_kept c.args.domain.now c.args.cpu.now c.give.new.cpu c.requires.idle (kept_loading _ _ c.give.ensures.acts)
