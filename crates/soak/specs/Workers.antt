-- Processors that work side by side.
use Rattle.std.specs.Prelude.{◌<◌}
use Rattle.sections.specs.Words.{cells_in}
use Rattle.domain.specs.Views.{DomainView, IsOf}
use Rattle.boxes.specs.Boxes.{IsCellIn}
use Rattle.soak.specs.declared.worker.Worker.{Worker}

-- its processor is of this domain, which has a cell, and it reads a cell of boxes and one of devices of the domain
pub record IsAtWork (d : DomainView) (w : Worker) : Type 0 where
  pub here : IsOf d w.cpu
  pub cell : 0 < cells_in d.domain
  pub boxes : IsCellIn d w.boxes
  pub users : IsCellIn d w.users.boxes
