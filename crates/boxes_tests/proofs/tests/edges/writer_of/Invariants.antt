-- The writers are of the domain.
use Rattle.std.proofs.Common.{All, ◌≡◌}
use Rattle.boxes.specs.Writing.{IsPlain}
use Rattle.boxes_tests.proofs.tests.edges.writer_of.Given as goal

abbrev pub invariant-loop : goal.invariant-loop
invariant-loop l = All (λ w. (w.domain ≡ l.domain.domain) × IsPlain w) l.writers.items
