-- So many places were counted as keys were made.
use Rattle.std.proofs.Common.{◌≡◌, length}
use Rattle.sections.proofs.making.no_keys.Given as goal

abbrev pub invariant-loop : goal.invariant-loop
invariant-loop g l = length l.keys.items ≡ l.counter
