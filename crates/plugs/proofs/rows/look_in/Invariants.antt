-- No row so far has the key.
use Rattle.std.proofs.Common.{◌≡◌, map, drop}
use Rattle.plugs.specs.Tables.{plug_of}
use Rattle.plugs.specs.Parts.{row_at}
use Rattle.plugs.proofs.rows.look_in.Given as goal

abbrev pub invariant-loop-word : goal.invariant-loop-word
invariant-loop-word l = plug_of (map row_at (drop l.word-index l.word-items)) l.key ≡ plug_of (map row_at l.word-items) l.key
