-- It asked how far the grace periods have come, or looked at the list.
use Rattle.race.proofs.Updating.{after_loads, after_take}
use Rattle.race.proofs.updater.take.Goals as goal

pub returns-clause-goes_on : goal.returns-clause-goes_on
returns-clause-goes_on g c = after_take c.args.course.now c.args.updater.now c.requires.is c.requires.tells c.take_ready.new.cpu.cpu.changes c.processor-processor.result c.take_ready.new.cpu c.take_ready.ensures.here c.in-Ok.ensures.acts

pub returns-in_default-clause-goes_on : goal.returns-in_default-clause-goes_on
returns-in_default-clause-goes_on g c = after_loads c.args.course.now c.args.updater.now c.requires.is c.requires.tells c.take_ready.new.cpu c.take_ready.ensures.here c.in_default.ensures.acts
