-- The processors so far are the same, and still of the domain.
use Rattle.domain.specs.Views.{IsOf, IsSameProcessor}
use Rattle.domain.proofs.Rows.{Goes}
use Rattle.domain_tests.proofs.tests.alone.ask_with_each.Given as goal

abbrev pub invariant-loop-cpu : goal.invariant-loop-cpu
invariant-loop-cpu l = record {
  goes : Goes (λ c d. IsSameProcessor c d × IsOf l.fn.domain d) l.cpu-index l.initial.cpus l.cpus;
}
