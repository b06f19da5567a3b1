-- So many of the processors so far are missing.
use Rattle.std.proofs.Common.{◌≡◌, ◌≤◌}
use Rattle.domain.specs.Cleanup.{missing_of}
use Rattle.domain.proofs.domain.Domain.count_missing.Given as goal

abbrev pub invariant-loop-processor : goal.invariant-loop-processor
invariant-loop-processor g l = record {
  missing : l.missing ≡ missing_of l.processor l.fn.cpus;
  few : l.missing ≤ l.processor;
}
