-- A refusal hands the writer back as it was.
use Rattle.std.proofs.Common.{◌≡◌}
use Rattle.domain.specs.Views.{IsOf}
use Rattle.boxes.specs.Writing.{IsPlain}
use Rattle.refused_tests.proofs.tests.boxing.make_in_turn.Given as goal

abbrev pub invariant-loop-nth : goal.invariant-loop-nth
invariant-loop-nth l = record {
  here : IsOf l.domain l.cpu;
  home : l.writer.domain ≡ l.domain.domain;
  plain : IsPlain l.writer;
}
