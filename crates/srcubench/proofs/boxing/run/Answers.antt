-- The writer is a new one, and so are the readers' processors.
use Rattle.std.proofs.Common.{ap}
use Rattle.sections.specs.WriterViews.{WriterView}
use Rattle.srcubench.proofs.boxing.run.Goals as goal

pub fill_and_find-requires-clause-here : goal.fill_and_find-requires-clause-here
fill_and_find-requires-clause-here g c κs lives = ap (λ (w : WriterView). w.domain) c.in_ok-domain.ensures.new.pen

pub fill_and_find-requires-clause-plain : goal.fill_and_find-requires-clause-plain
fill_and_find-requires-clause-plain g c κs lives = ap (λ (w : WriterView). w.plan) c.in_ok-domain.ensures.new.pen
