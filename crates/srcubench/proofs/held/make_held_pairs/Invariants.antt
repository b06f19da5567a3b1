-- So far as many held sections were begun and ended as there were rounds, with a load each.
use Rattle.std.proofs.Common.{◌≡◌, ◌+◌, length}
use Rattle.srcubench.specs.Held.{MakesHeldPairs}
use Rattle.srcubench.proofs.held.make_held_pairs.Given as goal

abbrev pub invariant-loop-made : goal.invariant-loop-made
invariant-loop-made g l = record {
  pairs : MakesHeldPairs l.made l.initial.first l.initial.second l.first l.second;
  steps : length l.first.steps ≡ length l.initial.first.steps + l.made;
}
