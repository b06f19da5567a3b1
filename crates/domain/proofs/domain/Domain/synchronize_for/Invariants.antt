-- The processor has its cookie, and has asked after it in vain until now.
use Rattle.domain.proofs.Synchronizing.{HasWaited}
use Rattle.domain.proofs.domain.Domain.synchronize_for.Given as goal

abbrev pub invariant-loop : goal.invariant-loop
invariant-loop g l = record {
  can : (goal.iterator-loop g).can_next l.iterator' × (goal.iterator-loop g).is_finite l.iterator';
  waited : HasWaited l.fn.self l.fn.cpu l.cookie l.cpu l.cpu;
}
