-- The seat stays as it is, and the processors so far have seen just its swaps.
use Rattle.std.proofs.Common.{◌≡◌}
use Rattle.domain.specs.Parts.{IsTurned}
use Rattle.domain.proofs.Rows.{Goes}
use Rattle.domain.proofs.domain.Domain.admit_turns.Given as goal

abbrev pub invariant-loop-other : goal.invariant-loop-other
invariant-loop-other g l = record {
  turn : l.turn ≡ l.initial.turn;
  goes : Goes (IsTurned l.initial.turn) l.other-index l.initial.others l.others;
}
