-- The shelf has the writer, and the values that writer's cell.
use Rattle.std.proofs.Common.{◌≡◌, sym, ap, ◌∙◌, subst}
use Rattle.atomic_table.specs.Seated.{TableId}
use Rattle.sections.specs.WriterViews.{WriterView}
use Rattle.shelf.specs.Cells.{IsCellIn}
use Rattle.shelf_tests.proofs.tests.domain_of_five.Goals as goal

pub returns-clause-writer : goal.returns-clause-writer
returns-clause-writer c = (c.in_ok-domain.ensures.fifth, ap (λ (w : WriterView). w.domain) c.new-shelf.ensures.0 ∙ c.in_ok-domain.ensures.writer.0)

pub returns-clause-cell : goal.returns-clause-cell
returns-clause-cell c = subst (IsCellIn c.in_ok-domain.domain.domain) (sym c.new-shelf.ensures.1) c.in_ok-domain.ensures.writer

pub returns-clause-first : goal.returns-clause-first
returns-clause-first c =
    let There : TableId → Type 0 = λ t. IsCellIn t c.new-shelf.result.1 in
    let first = c.in_ok-domain.ensures.first in
    (subst There (sym first.0.domain) (returns-clause-cell c), subst There (sym first.1.domain) (returns-clause-cell c))

pub returns-clause-last : goal.returns-clause-last
returns-clause-last c =
    let There : TableId → Type 0 = λ t. IsCellIn t c.new-shelf.result.1 in
    let last = c.in_ok-domain.ensures.last in
    (subst There (sym last.0.domain) (returns-clause-cell c), subst There (sym last.1.domain) (returns-clause-cell c))
