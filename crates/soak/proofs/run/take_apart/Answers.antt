-- In the beginning nothing was taken, and each worker's processor is of the domain.
use Rattle.std.proofs.Common.{rules, ◌≡◌, Some, length, arith}
use Rattle.std.specs.Vec.{vec_len}
use Rattle.std.proofs.lemmas.List.Elements.{All-pop, All-push, All-same}
use Rattle.domain.specs.Views.{CpuView, IsOf}
use Rattle.soak.specs.declared.worker.Worker.{Worker}
use Rattle.soak.specs.Workers.{IsAtWork}
use Rattle.soak.proofs.run.take_apart.Goals as goal

pub loop-worker-init : goal.loop-worker-init
loop-worker-init c = record {
  each = c.requires.all;
  cpus = λ k v lt.
      let long : vec_len c.args.parts.cpus ≡ length c.args.parts.cpus.items = c.args.parts.cpus.ok.0 in
      let none = c.requires.cpus.0 in
      absurd (omega (arith, lt, long, none));
  room_there = search rules;
}

pub loop-worker-preserved : goal.loop-worker-preserved
loop-worker-preserved c =
    let before = c.loop-worker.invariant in
    let worker : Worker = c.in-Some.worker in
    let Here : CpuView _ → Type 0 = IsOf c.args.domain.now in
    let AtWork : Worker → Type 0 = IsAtWork c.args.domain.now in
    let each = All-pop AtWork _ _ (Some worker) c.in-Some.ensures.items before.each in record {
      each = each.0;
      cpus = All-same Here _ _ c.push_reserved.ensures.items (All-push Here _ worker.cpu before.cpus each.1.here);
      room_there = search rules;
    }
