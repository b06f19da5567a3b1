-- So many are out, each with its number, and all others are idle.
use Rattle.std.proofs.Common.{◌≡◌, ◌+◌, ◌≤◌, All, vec_len, vec_capacity}
use Rattle.std.specs.List.{range_with_len}
use Rattle.driver.specs.Pools.{IsIdle}
use Rattle.srcu.specs.Crews.{AreWorkersOf}
use Rattle.srcu.proofs.team.running.enlist.Given as goal

abbrev pub invariant-loop-number : goal.invariant-loop-number
invariant-loop-number g l = record {
  idle : All (IsIdle l.domain) l.cpus.items;
  out : AreWorkersOf l.domain l.workers.items;
  numbers : l.numbers.items ≡ range_with_len 0 l.number;
  counts : (vec_len l.workers ≡ l.number) × (vec_len l.numbers ≡ l.number) × (vec_len l.cpus + l.number ≡ vec_len l.fn.cpus);
  room : (l.many ≤ vec_len l.fn.cpus) × (l.many ≤ vec_capacity l.workers) × (l.many ≤ vec_capacity l.numbers);
  capacity : vec_capacity l.cpus ≡ vec_capacity l.fn.cpus;
}
