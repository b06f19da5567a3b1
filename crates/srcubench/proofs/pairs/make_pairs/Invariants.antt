-- So far as many pairs were made as there were rounds, with a load each.
use Rattle.std.proofs.Common.{◌≡◌, ◌+◌, length}
use Rattle.srcubench.specs.Pairs.{MakesPairs}
use Rattle.srcubench.proofs.pairs.make_pairs.Given as goal

abbrev pub invariant-loop-made : goal.invariant-loop-made
invariant-loop-made g l = record {
  pairs : MakesPairs l.made l.initial.cpu l.cpu;
  steps : length l.cpu.steps ≡ length l.initial.cpu.steps + l.made;
}
