-- In the beginning there is no worker, and each processor becomes one, with boxes and users of the same cells.
use Rattle.std.proofs.Common.{rules, ◌≡◌, Some, length, sym, subst, arith}
use Rattle.std.specs.Vec.{vec_len}
use Rattle.std.proofs.lemmas.List.Elements.{All-pop, All-push, All-same}
use Rattle.domain.specs.Views.{CpuView, IsOf}
use Rattle.boxes.specs.Boxes.{IsCellIn}
use Rattle.soak.specs.declared.worker.Worker.{Worker}
use Rattle.soak.specs.Workers.{IsAtWork}
use Rattle.soak.proofs.run.staff.Goals as goal

pub loop-cpu-init : goal.loop-cpu-init
loop-cpu-init c = record {
  cpus = c.requires.cpus;
  boxes = c.requires.boxes;
  users = c.requires.users;
  each = λ k w lt.
      let long : vec_len c.args.workers ≡ length c.args.workers.items = c.args.workers.ok.0 in
      let none = c.requires.room.0 in
      absurd (omega (arith, lt, long, none));
  all = search rules;
  room = c.requires.room.1;
}

pub loop-cpu-preserved : goal.loop-cpu-preserved
loop-cpu-preserved c =
    let before = c.loop-cpu.invariant in
    let cpu : CpuView _ = c.in-Some.cpu in
    let Here : CpuView _ → Type 0 = IsOf c.args.domain.now in
    let AtWork : Worker → Type 0 = IsAtWork c.args.domain.now in
    let boxes = c.in_ok-boxes.ensures in
    let users = c.in_ok-users.ensures in
    let cpus = All-pop Here _ _ (Some cpu) c.in-Some.ensures.items before.cpus in
    let worker : Worker = record { cpu = cpu; boxes = c.in_ok-boxes.boxes; users = c.in_ok-users.users; last = 0; counts = c.default.result } in
    let at_work : AtWork worker = record {
      here = cpus.1;
      cell = c.requires.cell;
      boxes = subst (IsCellIn c.args.domain.now) (sym boxes.another) before.boxes;
      users = subst (IsCellIn c.args.domain.now) (sym users.another) before.users;
    } in record {
      cpus = cpus.0;
      boxes = subst (IsCellIn c.args.domain.now) (sym boxes.same) before.boxes;
      users = subst (IsCellIn c.args.domain.now) (sym users.same) before.users;
      each = All-same AtWork _ _ c.push_reserved.ensures.items (All-push AtWork _ worker before.each at_work);
      all = search rules;
      room = search rules;
    }
