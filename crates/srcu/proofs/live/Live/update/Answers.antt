-- What the closure made of the value was put right after it.
use Rattle.srcu.proofs.Living.{updates_live}
use Rattle.srcu.proofs.live.Live.update.Goals as goal

pub returns-clause-updates : goal.returns-clause-updates
returns-clause-updates g c = updates_live g.F.FnOnce (λ u. u.older) (λ u. u.seen) (λ x. x.refusal)
    (λ x. x.seen) c.args.make c.args.self.now c.shown.result c.make-value.result c.take-place.result.0.writer c.args.worker.now.cpu c.put.new.worker.cpu c.put.result c.shown.ensures c.make-value.ensures c.put.ensures.puts
