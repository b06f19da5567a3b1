-- The last worker was taken out, and comes back at work.
use Rattle.std.proofs.Common.{arith}
use Rattle.std.proofs.lemmas.List.Elements.{All-pop, All-push, All-same}
use Rattle.soak.specs.declared.worker.Worker.{Worker}
use Rattle.soak.specs.Workers.{IsAtWork}
use Rattle.soak.proofs.tests.run_wrongly.Goals as goal

pub unwrap-worker-requires : goal.unwrap-worker-requires
unwrap-worker-requires g c =
    let seven = c.in_ok-domain.ensures.many in
    let long = c.in_ok-domain.field-0.workers.ok.0 in
    c.pop.ensures.variant.1 (omega (arith, seven, long))

pub read_torn_table-requires-clause-worker : goal.read_torn_table-requires-clause-worker
read_torn_table-requires-clause-worker g c =
    let AtWork : Worker → Type 0 = IsAtWork c.in_ok-domain.field-0.domain in
    let each = All-pop AtWork _ _ _ c.pop.ensures.items c.in_ok-domain.ensures.all in
    rw c.unwrap-worker.ensures at each.1

pub take_apart-parts-requires-clause-all : goal.take_apart-parts-requires-clause-all
take_apart-parts-requires-clause-all g c =
    let AtWork : Worker → Type 0 = IsAtWork c.in_ok-domain.field-0.domain in
    let each = All-pop AtWork _ _ _ c.pop.ensures.items c.in_ok-domain.ensures.all in
    All-same AtWork _ _ c.push_reserved.ensures.items (All-push AtWork _ c.go_wrong-driver.new.worker each.0 c.go_wrong-driver.ensures.worker)
