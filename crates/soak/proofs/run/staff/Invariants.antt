-- The processors that are left are of the domain, and so are both cells.
use Rattle.std.proofs.Common.{◌≡◌, ◌+◌, ◌≤◌, All}
use Rattle.std.specs.Vec.{vec_len, vec_capacity}
use Rattle.domain.specs.Views.{IsOf}
use Rattle.boxes.specs.Boxes.{IsCellIn}
use Rattle.soak.specs.Workers.{IsAtWork}
use Rattle.soak.proofs.run.staff.Given as goal

abbrev pub invariant-loop-cpu : goal.invariant-loop-cpu
invariant-loop-cpu l = record {
  cpus : All (IsOf l.domain) l.cpus.items;
  boxes : IsCellIn l.domain l.boxes;
  users : IsCellIn l.domain l.users.boxes;
  each : All (IsAtWork l.domain) l.workers.items;
  all : vec_len l.cpus + vec_len l.workers ≡ vec_len l.fn.cpus;
  room : vec_len l.fn.cpus ≤ vec_capacity l.workers;
}

abbrev pub decreases-loop-cpu : goal.decreases-loop-cpu
decreases-loop-cpu l = vec_len l.cpus
