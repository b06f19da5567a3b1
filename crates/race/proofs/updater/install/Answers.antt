-- One version more was installed, or no slot was free.
use Rattle.race.proofs.Updating.{after_install, after_none, on_and_on}
use Rattle.race.proofs.updater.install.Goals as goal

pub returns-in_default-clause-goes_on : goal.returns-in_default-clause-goes_on
returns-in_default-clause-goes_on g c =
    let so_far = c.loop.invariant in
    let call = c.install-installed in
    on_and_on c.args.course.now 0 0 1 0 c.args.updater.now c.loop.updater _ so_far (after_install c.args.course.now c.loop.updater so_far.is so_far.tells _ _ _ call.new.self call.new.cpu call.ensures.here call.ensures.same.0 c.in_default.ensures.installs)

pub advance-requires-clause-tells : goal.advance-requires-clause-tells
advance-requires-clause-tells g c =
    let so_far = c.loop.invariant in
    let call = c.install-installed in
    let none = rw c.in-NoSlot.is at c.in-Err.ensures.installs in
    (after_none c.args.course.now c.loop.updater so_far.is so_far.tells _ call.new.self call.new.cpu call.ensures.here call.ensures.same.0 none).tells
