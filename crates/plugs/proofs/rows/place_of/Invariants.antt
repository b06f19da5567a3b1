-- The rows so far have smaller keys.
use Rattle.std.proofs.Common.{ℕ, ◌<◌, get_or}
use Rattle.plugs.specs.declared.rows.Row.{Row}
use Rattle.plugs.proofs.rows.place_of.Given as goal

abbrev pub invariant-loop-place : goal.invariant-loop-place
invariant-loop-place l = (i : ℕ) (d : Row) → i < l.place → (get_or l.rows i d).key < l.key
