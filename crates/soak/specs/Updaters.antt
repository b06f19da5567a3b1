-- The thread that puts versions and boxes, and changes devices.
use Rattle.std.specs.Prelude.{◌≡◌}
use Rattle.domain.specs.Views.{DomainView, IsOf}
use Rattle.boxes.specs.Boxes.{IsCellIn, cell_of}
use Rattle.soak.specs.declared.updating.Updater.{Updater}

-- its processor is of this domain, and so are its writers
pub record IsUpdating (d : DomainView) (u : Updater) : Type 0 where
  pub here : IsOf d u.cpu
  pub writes : u.writer.domain ≡ d.domain
  pub boxes : IsCellIn d (cell_of u.boxes)
  pub devices : IsCellIn d (cell_of u.registry.writer)
