-- How the fields of a shelf and of what reads it are seen.
use Rattle.atomic_table.specs.Seated.{TableId}
use Rattle.sections.specs.WriterViews.{WriterView}
use Rattle.shelf.specs.declared.shelf.Shelf.TheInside as shelf
use Rattle.shelf.specs.declared.name.DomainName.TheInside as name
use Rattle.shelf.specs.declared.values.Values.TheInside as values
use Rattle.shelf.specs.Cells.{CellView, domain_at}

abbrev pub domain_of : name.Inside → TableId
domain_of n = domain_at n.tag.numbers

module _ {T : Type 0} where
  abbrev pub view_of_shelf : shelf.Inside T → WriterView
  view_of_shelf s = s.writer

  abbrev pub view_of_values : values.Inside T → CellView
  view_of_values v = record { domain = v.domain; cell = v.cell }
