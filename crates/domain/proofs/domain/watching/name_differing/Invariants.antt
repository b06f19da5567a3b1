-- The processors so far were looked at.
use Rattle.std.proofs.Common.{◌≡◌, ◌≤◌}
use Rattle.std.specs.Vec.{vec_len, vec_capacity}
use Rattle.domain.specs.Watching.{differing}
use Rattle.domain.proofs.domain.watching.name_differing.Given as goal

abbrev pub invariant-loop-processor : goal.invariant-loop-processor
invariant-loop-processor g l = record {
  so_far : l.named.items ≡ differing l.counters.unlocks.items l.counters.locks.items l.processor;
  len : vec_len l.named ≤ l.processor;
  room : vec_capacity l.named ≡ vec_capacity l.initial.named;
}
