-- How the fields of a table with what reads there are seen.
use Rattle.std.specs.Prelude.{◌≡◌}
use Rattle.shelf.specs.Cells.{cell_of}
use Rattle.plugs.specs.Views.{TableState}
use Rattle.solo.specs.declared.plugboard.Plugboard.TheInside as plugboard

abbrev pub view_of_plugboard : plugboard.Inside → TableState
view_of_plugboard b = b.table

-- what reads there is of the table's cell
abbrev pub IsPlugboard : plugboard.Inside → Type 0
IsPlugboard b = b.view ≡ cell_of b.table.writer
