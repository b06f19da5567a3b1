-- Each worker's thread left it at work.
use Rattle.std.proofs.Common.{ℕ, ◌<◌, List, length, get_or, sym, subst}
use Rattle.soak.specs.declared.worker.Worker.{Worker}
use Rattle.soak.specs.Workers.{IsAtWork}
use Rattle.soak.proofs.Working.{all_worked}
use Rattle.soak.proofs.run.work_all.Goals as goal

pub returns-clause-all : goal.returns-clause-all
returns-clause-all g c =
    let items = c.args.workers.items in
    let new = c.for_each_mut.new.s in
    let lent = c.as_mut_slice.ensures.value in
    let each : (i : ℕ) (w : Worker) → i < length items → IsAtWork c.args.domain.now (get_or new i w) =
    λ i w lt.
    let at = (c.for_each_mut.ensures i w (subst (λ (l : List Worker). i < length l) (sym lent) lt)).1 in
    subst (λ (v : Worker). IsAtWork c.args.domain.now v) at.left at.call in
    all_worked c.args.domain.now items new c.args.workers.len c.args.workers.ok.0 each
