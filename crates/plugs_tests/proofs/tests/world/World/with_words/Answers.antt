-- The processor stays one of the domain, and the writer that of its cell.
use Rattle.std.proofs.Common.{◌<◌, ap, ◌∙◌, sym, subst}
use Rattle.sections.specs.Words.{cells_in}
use Rattle.sections.specs.WriterViews.{WriterView}
use Rattle.shelf.specs.Cells.{IsCellIn, cell_of}
use Rattle.plugs_tests.proofs.tests.world.World.with_words.Goals as goal

pub invariant_of-result : goal.invariant_of-result
invariant_of-result c =
    let made = c.in_ok-domain.ensures in
    let put = c.put_words.ensures in
    let table = c.new-table.ensures in
    let here : IsCellIn c.in_ok-domain.domain.domain (cell_of c.put_words.new.writer) = (put.writer.0 ∙ made.writer.0, subst (λ n. n < cells_in c.in_ok-domain.domain.domain) (sym put.writer.1) made.writer.1) in (
      put.stays c.in_ok-domain.domain made.first,
      made.second,
      ap (λ (w : WriterView). w.domain) table.writer ∙ (put.writer.0 ∙ made.writer.0),
      subst (IsCellIn c.in_ok-domain.domain.domain) (sym table.cell) here,
    )
