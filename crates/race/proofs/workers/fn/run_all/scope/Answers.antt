-- Who has raced is back.
use Rattle.race.proofs.Comings.{back_of, whatever}
use Rattle.race.proofs.workers.fn.run_all.scope.Goals as goal

pub returns : goal.returns
returns g c = (back_of c.captures.course.now c.run_in.result.0 c.run_in.ensures, whatever c.run_in.result.1 c.run_in.ensures)
