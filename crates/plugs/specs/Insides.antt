-- How the fields of rows are seen, and what is always true of them.
use Rattle.std.specs.Prelude.{List}
use Rattle.plugs.specs.declared.rows.Row.{Row}
use Rattle.plugs.specs.declared.rows.Rows.TheInside as rows
use Rattle.plugs.specs.Tables.{IsTable}

abbrev pub list_of : rows.Inside → List Row
list_of r = r.rows.items

abbrev pub AreRows : rows.Inside → Type 0
AreRows r = IsTable r.rows.items
