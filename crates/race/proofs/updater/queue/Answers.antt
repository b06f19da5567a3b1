-- One callback more was queued.
use Rattle.race.proofs.Updating.{after_call}
use Rattle.race.proofs.updater.queue.Goals as goal

-- src/updater.rt:102:9
pub returns-in_default : goal.returns-in_default
returns-in_default g c = after_call c.args.course.now c.args.updater.now c.requires.is c.requires.tells _ c.call.new.cpu c.call.ensures.here c.in_default.ensures.acts
