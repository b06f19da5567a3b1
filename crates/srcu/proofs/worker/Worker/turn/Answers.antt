-- The processor has seen more, and put nothing.
use Rattle.srcu.proofs.Putting.{puts_turned}
use Rattle.srcu.proofs.Since.{since_turned}
use Rattle.srcu.proofs.worker.Worker.turn.Goals as goal

pub returns-clause-since : goal.returns-clause-since
returns-clause-since g c = since_turned c.args.self.now.domain c.args.self.now.cpu c.drive-turned.new.self.cpu c.drive-turned.result c.drive-turned.ensures.says

pub returns-clause-only : goal.returns-clause-only
returns-clause-only g c = puts_turned (λ cell version. ⊥) c.args.self.now.cpu c.drive-turned.new.self.cpu c.drive-turned.result c.drive-turned.ensures.drives
