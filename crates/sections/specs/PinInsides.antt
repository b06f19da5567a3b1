-- How the fields of what was found are seen, and what is always true of them.
use Rattle.std.specs.Prelude.{◌≡◌, ◌<◌, []}
use Rattle.sections.specs.declared.view.Right.TheVariants.{Nothing}
use Rattle.sections.specs.declared.cpu.pins.Found.TheInside as found
use Rattle.sections.specs.Words.{cells_in}
use Rattle.sections.specs.Shelves.{IsKnown}
use Rattle.sections.specs.Views.{FoundView}

abbrev pub view_of_found : found.Inside → FoundView
view_of_found f = record { domain = f.seat.table_id; cell = f.cell; slot = f.slot; version = f.version; seen = f.seat.me.0.seen; changes = f.seat.me.0.changes; texts = f.seat.me.0.texts }

pub record IsFound (f : found.Inside) : Type 0 where
  pub bare : f.seat.me.1 ≡ []
  pub free : f.seat.me.0.right ≡ Nothing
  pub cell : f.cell < cells_in f.seat.table_id
  pub slot : f.slot < 8
  pub known : IsKnown f.cell f.version f.seat.me.0.texts
