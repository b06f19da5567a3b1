-- All readers have made all of their rounds.
use Rattle.race.specs.Workers.{HaveRaced}
use Rattle.race.proofs.Comings.{totals_are}
use Rattle.race.proofs.racing.race.Goals as goal

pub returns : goal.returns
returns g c =
    let prepared = c.in_ok-course.ensures in
    let raced : HaveRaced c.in_ok-course.field-0.course c.run_all-workers.result.0 = rw c.in_ok-result.was at c.run_all-workers.ensures.raced in
    totals_are c.args.readers c.args.rounds c.in_ok-course.field-0.course c.run_all-workers.result.0 c.end-totals.result prepared.seats prepared.rounds_are raced c.end-totals.ensures.counts c.end-totals.ensures.opened c.end-totals.ensures.updater c.end-totals.ensures.cleans
