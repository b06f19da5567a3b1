-- Cells of boxes of a domain.
use Rattle.std.proofs.Common.{◌≡◌, sym, ◌∙◌}
use Rattle.domain.specs.Views.{DomainView, CpuView, IsOf}
use Rattle.boxes.specs.Boxes.{BoxesView, IsCellIn, IsCellOf}

-- a cell of a domain is one of each of its processors
pub cell_here : {J : Type 0} (d : DomainView) (c : CpuView J) (b : BoxesView) → IsOf d c → IsCellIn d b → IsCellOf c.cpu b
cell_here d c b here cell = (cell.0 ∙ sym here.domain, cell.1 ∙ sym here.many)
