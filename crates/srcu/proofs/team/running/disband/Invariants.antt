-- So many are back.
use Rattle.std.proofs.Common.{◌≡◌, ◌+◌, ◌≤◌, All, vec_len, vec_capacity, length}
use Rattle.driver.specs.Pools.{IsIdle}
use Rattle.srcu.specs.Crews.{AreWorkersOf}
use Rattle.srcu.proofs.team.running.disband.Given as goal

abbrev pub invariant-loop-worker : goal.invariant-loop-worker
invariant-loop-worker g l =
    All (IsIdle l.domain) l.cpus.items × AreWorkersOf l.domain l.workers.items × (vec_len l.cpus + vec_len l.workers ≡ vec_len l.fn.cpus + vec_len l.fn.workers) × (vec_len l.fn.cpus + vec_len l.fn.workers ≤ vec_capacity l.cpus) × (vec_capacity l.cpus ≡ vec_capacity l.fn.cpus)

abbrev pub decreases-loop-worker : goal.decreases-loop-worker
decreases-loop-worker g l = length l.workers.items
