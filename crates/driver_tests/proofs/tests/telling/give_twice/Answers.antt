-- Neither call opens a reading.
use Rattle.driver.proofs.Keeping.{kept_loading, kept_trans, idle_kept}
use Rattle.driver_tests.proofs.tests.telling.give_twice.Goals as goal

pub give-first-requires-clause-here : goal.give-first-requires-clause-here
give-first-requires-clause-here g c = c.requires.idle.here

pub returns : goal.returns
returns g c = idle_kept c.args.domain.now c.args.cpu.now c.give.new.cpu c.requires.idle (kept_trans _ _ _ (kept_loading _ _ c.give-first.ensures.acts) (kept_loading _ _ c.give.ensures.acts))
