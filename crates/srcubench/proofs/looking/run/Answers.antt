-- The table was filled in a new domain.
use Rattle.std.proofs.Common.{List, All, Result, IsOk, ap, ◌∙◌, subst}
use Rattle.sections.specs.WriterViews.{WriterView}
use Rattle.shelf.specs.Cells.{CellView}
use Rattle.domain.specs.Views.{CpuView}
use Rattle.srcubench.specs.declared.miss.Miss.{Miss}
use Rattle.srcubench.proofs.Founded.{reads_cell}
use Rattle.srcubench.proofs.Tabled.{has_table, have_looked}
use Rattle.srcubench.proofs.looking.run.Goals as goal

pub fill-requires-clause-table : goal.fill-requires-clause-table
fill-requires-clause-table g c = ap (λ (w : WriterView). w.domain) (c.new-table.ensures.writer ∙ c.in_ok-domain.ensures.new.pen)

pub look_together-requires : goal.look_together-requires
look_together-requires g c = (c.type_bounds.sync-R, reads_cell _ _ _ _ _ _ c.in_ok-domain.ensures.new c.in_ok-domain.ensures.cell c.new-table.ensures.cell)

pub returns-clause-looked : goal.returns-clause-looked
returns-clause-looked g c =
    let none = subst (λ (l : List (Result (CpuView (Unit {0})) Miss)). All IsOk l) c.as_slice.ensures.value c.in_ok-first_error.ensures in
    let has = has_table _ _ _ _ _ _ _ _ c.in_ok-domain.ensures.new c.new-table.ensures.writer c.new-table.ensures.empty c.in_ok-fill.ensures.fills in
    have_looked _ _ _ _ _ _ _ _ _ _ has (ap (λ (z : CellView). z.cell) c.new-table.ensures.cell) c.in_ok-domain.ensures.new.pen c.in_ok-outcomes.ensures none
