-- The seat stays as it is, and the processors so far have seen just what it has.
use Rattle.std.proofs.Common.{◌≡◌}
use Rattle.domain.specs.Parts.{IsHeard}
use Rattle.domain.proofs.Rows.{Goes}
use Rattle.domain.proofs.domain.tallies.admit_calls.Given as goal

abbrev pub invariant-loop-other : goal.invariant-loop-other
invariant-loop-other g l = record {
  seat : l.seat ≡ l.initial.seat;
  goes : Goes (IsHeard l.initial.seat) l.other-index l.initial.others l.others;
}
