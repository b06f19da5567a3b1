-- Whether the sign is given or was before, no reading is opened by it.
use Rattle.driver.proofs.CallerLemmas.{kept_loading, idle_kept}
use Rattle.servebench.proofs.serving.give.Goals as goal

pub give-requires-clause-here : goal.give-requires-clause-here
give-requires-clause-here g c = c.requires.idle.here

pub returns-then-is_err : goal.returns-then-is_err
returns-then-is_err g c = idle_kept c.args.domain.now c.args.cpu.now c.give.new.cpu c.requires.idle (kept_loading _ _ c.give.ensures.acts)

pub returns-else-is_err : goal.returns-else-is_err
returns-else-is_err g c = idle_kept c.args.domain.now c.args.cpu.now c.give.new.cpu c.requires.idle (kept_loading _ _ c.give.ensures.acts)
