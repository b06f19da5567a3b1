-- How the fields of a view are seen.
use Rattle.plugs.specs.declared.view.TableView.TheInside as view
use Rattle.shelf.specs.Cells.{CellView}

abbrev pub cell_of_view : view.Inside → CellView
cell_of_view v = record { domain = v.domain; cell = v.cell }
