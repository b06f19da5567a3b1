-- The cell is there on each processor.
use Rattle.std.proofs.Common.{sym, subst}
use Rattle.std.proofs.lemmas.List.Elements.{All-get_or}
use Rattle.domain.specs.Views.{CpuView}
use Rattle.shelf.specs.Cells.{IsCellIn}
use Rattle.srcubench.proofs.notifying.call_together.Goals as goal

pub map_vec-requires-after_bounds : goal.map_vec-requires-after_bounds
map_vec-requires-after_bounds g c κs within i x lt e =
    let there : IsCellIn x.cpu.domain c.args.view.now.place = subst (λ (z : CpuView (Unit {0})). IsCellIn z.cpu.domain c.args.view.now.place) (sym e) (All-get_or (λ (z : CpuView (Unit {0})). IsCellIn z.cpu.domain c.args.view.now.place) c.args.cpus.items i x lt c.requires.cell) in
    λ κs' pointer borrowed fits κs'' lives more. (there, c.requires.ids)
