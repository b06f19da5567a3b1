-- A look, and then the loads of `holders`.
use Rattle.srcu.proofs.Looking.{open_since, empty_since, loads_both}
use Rattle.srcu.proofs.worker.Worker.who_holds.Goals as goal

pub returns-clause-acts : goal.returns-clause-acts
returns-clause-acts g c = rw (← c.self.view_is) (loads_both c.self.inside.cpu c.look.new.self c.holders.new.self.cpu c.look.ensures.acts c.holders.ensures.acts)

pub returns-clause-open : goal.returns-clause-open
returns-clause-open g c = rw (← c.self.view_is) (λ some. open_since c.other-index.result c.self.inside.cpu.cpu.seen c.look.new.self.cpu.seen c.holders.new.self.cpu.cpu.seen c.look.ensures.looks.load.since (c.in_ok-holders.ensures.open some))

pub returns-clause-empty : goal.returns-clause-empty
returns-clause-empty g c = rw (← c.self.view_is) (λ none. empty_since c.other-index.result c.self.inside.cpu.cpu.seen c.look.new.self.cpu.seen c.holders.new.self.cpu.cpu.seen c.look.ensures.looks.load.since (c.in_ok-holders.ensures.empty none))
