-- What a version of a table says of a key.
use Rattle.std.specs.Prelude.{◌≡◌, ℕ, Option, List}
use Rattle.sections.specs.Views.{FoundView}
use Rattle.sections.specs.Reads.{AreWords}
use Rattle.plugs.specs.declared.rows.Row.{Row}
use Rattle.plugs.specs.Tables.{plug_of, AreRead}

-- the words of the version that was found are read as a table in which the key has this plug
pub record HasPlug (found : FoundView) (key : ℕ) (plug : Option ℕ) : Type 0 where
  pub words : List ℕ
  pub rows : List Row
  pub words_are : AreWords found words
  pub read : AreRead words rows
  pub plug_is : plug ≡ plug_of rows key
