use Rattle.std.proofs.Common.{ap}
use Rattle.domain.specs.Glossary.{CpuView}
use Rattle.solo.proofs.BatchActs.{takes_out, takes_then_loads}
use Rattle.solo.proofs.taking.take_out.Goals as goal

pub returns-clause-taken : goal.returns-clause-taken
returns-clause-taken g c =
    let of = rw c.in-Some.is at c.in_ok-batch.ensures.batch in
    let takes = rw c.in-Some.is at c.in_ok-batch.ensures.takes in
    let handed = rw c.in-Some.is at c.in_ok-batch.ensures.handed in
    rw c.see_out.ensures.batch (takes_out of takes handed c.see_out.ensures.out c.see_out.ensures.rest)

pub returns-clause-acts : goal.returns-clause-acts
returns-clause-acts g c = takes_then_loads c.in_ok-batch.ensures.acts (ap (λ (x : CpuView g.row.J.Denot). x.cpu.changes) c.see_out.ensures.rest) c.see_out.ensures.acts
