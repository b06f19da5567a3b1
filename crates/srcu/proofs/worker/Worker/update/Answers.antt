-- What the closure made of the current value was put.
use Rattle.srcu.proofs.Updating.{makes_of, updates_box}
use Rattle.srcu.proofs.worker.Worker.update.Goals as goal

pub returns-clause-updates : goal.returns-clause-updates
returns-clause-updates g c =
    updates_box g.F.FnOnce c.args.make c.make-value.result c.args.alloc c.args.writer.now c.replace_box.new.writer c.args.self.now.cpu c.replace_box.new.self.cpu c.replace_box.result
    (makes_of g.F.FnOnce c.args.make c.current.result c.make-value.result c.args.writer.now c.current.ensures c.make-value.ensures) c.replace_box.ensures.replaces
