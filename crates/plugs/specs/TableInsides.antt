-- How the fields of a table are seen.
use Rattle.plugs.specs.declared.table.Table.TheInside as table
use Rattle.plugs.specs.Views.{TableState}

abbrev pub view_of_table : table.Inside → TableState
view_of_table t = record { writer = t.writer; rows = t.rows }
