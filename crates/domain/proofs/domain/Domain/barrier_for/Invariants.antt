-- The ticket was polled in vain until now.
use Rattle.domain.proofs.Polling.{HasPolled}
use Rattle.domain.proofs.domain.Domain.barrier_for.Given as goal

abbrev pub invariant-loop : goal.invariant-loop
invariant-loop g l = record {
  can : (goal.iterator-loop g).can_next l.iterator' × (goal.iterator-loop g).is_finite l.iterator';
  polled : HasPolled l.fn.self l.fn.cpu l.ticket l.cpu;
}
