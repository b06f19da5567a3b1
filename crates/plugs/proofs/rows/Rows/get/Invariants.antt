-- No row so far has the key.
use Rattle.std.proofs.Common.{◌≡◌, drop}
use Rattle.plugs.specs.Tables.{plug_of}
use Rattle.plugs.proofs.rows.Rows.get.Given as goal

abbrev pub invariant-loop-row : goal.invariant-loop-row
invariant-loop-row l = plug_of (drop l.row-index l.row-items) l.key ≡ plug_of l.row-items l.key
