-- What was taken out is joined.
use Rattle.std.proofs.Common.{◌≡◌, ◌+◌}
use Rattle.std.specs.Vec.{vec_len, vec_capacity}
use Rattle.domain.proofs.Joining.{Joins}
use Rattle.domain.proofs.domain.making.join_seats.Given as goal

abbrev pub invariant-loop-cpu : goal.invariant-loop-cpu
invariant-loop-cpu g l = record {
  joins : Joins l.fn.cpus.items l.fn.needs.items l.fn.turns.items l.fn.calls.items l.cpus.items l.needs.items l.turns.items l.calls.items l.all.items;
  long : vec_len l.all + vec_len l.cpus ≡ vec_len l.fn.cpus;
  room : vec_capacity l.all ≡ vec_len l.fn.cpus;
}

abbrev pub decreases-loop-cpu : goal.decreases-loop-cpu
decreases-loop-cpu g l = vec_len l.cpus
