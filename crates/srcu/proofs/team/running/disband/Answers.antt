-- Another worker is back.
use Rattle.std.proofs.Common.{◌≡◌, Some, ap, ◌∙◌, subst, arith}
use Rattle.std.proofs.lemmas.List.Elements.{All-pop, All-push, All-same}
use Rattle.domain.specs.Views.{DomainView}
use Rattle.driver.specs.Pools.{IsIdle}
use Rattle.srcu.specs.Workers.{WorkerView}
use Rattle.srcu.proofs.team.running.disband.Goals as goal

pub loop-worker-preserved : goal.loop-worker-preserved
loop-worker-preserved g c =
    let v = c.loop-worker.invariant in
    let d = c.args.domain.now in
    let one = c.in-Some.ensures in
    let put = c.push_reserved.ensures in
    let rest = All-pop (λ (w : WorkerView g.row.J.Denot). w.domain ≡ d) _ _ (Some c.in-Some.worker) one.items v.1 in
    let idle = subst (λ (x : DomainView). IsIdle x c.into_cpu.result) rest.1 c.into_cpu.ensures.idle in
    let a = one.len in
    let b = put.len in
    let sum = v.2 in
    let room = v.3 in
    let cap = put.capacity in (
      All-same (IsIdle d) _ _ put.items (All-push (IsIdle d) _ _ v.0 idle),
      rest.0,
      omega (arith, a, b, sum),
      omega (arith, room, cap),
      cap ∙ v.4,
    )
