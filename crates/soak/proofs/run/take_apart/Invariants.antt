-- What was taken from them is there, and for what is left there is room.
use Rattle.std.proofs.Common.{◌+◌, ◌<◌, All}
use Rattle.std.specs.Vec.{vec_len, vec_capacity}
use Rattle.domain.specs.Views.{IsOf}
use Rattle.soak.specs.Workers.{IsAtWork}
use Rattle.soak.proofs.run.take_apart.Given as goal

abbrev pub invariant-loop-worker : goal.invariant-loop-worker
invariant-loop-worker l = record {
  each : All (IsAtWork l.domain) l.workers.items;
  cpus : All (IsOf l.domain) l.parts.cpus.items;
  room_there : vec_len l.workers + vec_len l.parts.cpus + 2 < vec_capacity l.parts.cpus;
}

abbrev pub decreases-loop-worker : goal.decreases-loop-worker
decreases-loop-worker l = vec_len l.workers
