-- What goes back is the processor that was lent, idle as the work left it.
use Rattle.std.proofs.Common.{refl, ◌∙◌}
use Rattle.std.specs.Fn.{FnOnceReturnsAtMut}
use Rattle.driver.proofs.pool.working.Pool+J.work_on.Goals as goal

pub give-requires : goal.give-requires
give-requires g c =
    let works : FnOnceReturnsAtMut g.F.FnOnce c.args.work c.args.lent.cpu c.work-answer.result c.work-answer.new.arg2 = record { shown = _; shows = refl; left = _; met = c.work-answer.ensures; leaves = refl } in
    let back = c.requires.leaves _ _ _ c.requires.lent.lent.idle works in
    record { pool = c.requires.lent.pool; lent = record { idle = back.idle; number = c.requires.lent.lent.number ∙ back.number } }

pub returns : goal.returns
returns g c =
    let works : FnOnceReturnsAtMut g.F.FnOnce c.args.work c.args.lent.cpu c.work-answer.result c.work-answer.new.arg2 = record { shown = _; shows = refl; left = _; met = c.work-answer.ensures; leaves = refl } in
    record { lent = c.args.lent.cpu; idle = c.requires.lent.lent.idle; back = c.work-answer.new.arg2; works = works; given_back = c.requires.leaves _ _ _ c.requires.lent.lent.idle works }
