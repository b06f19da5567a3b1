-- The table has the writer, and its view that writer's cell.
use Rattle.std.proofs.Common.{◌≡◌, sym, ap, ◌∙◌, subst}
use Rattle.sections.specs.WriterViews.{WriterView}
use Rattle.shelf.specs.Cells.{IsCellIn}
use Rattle.plugs_tests.proofs.tests.threads.five_cpus.Goals as goal

pub returns-clause-writer : goal.returns-clause-writer
returns-clause-writer c =
    let made = c.in_ok-domain.ensures in
    let table = c.new-table.ensures in (
      made.fifth,
      ap (λ (w : WriterView). w.domain) table.writer ∙ made.writer.0,
      subst (IsCellIn c.in_ok-domain.domain.domain) (sym table.cell) made.writer,
    )
