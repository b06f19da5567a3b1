-- All processors are idle, and each writer is one of a cell of the domain.
use Rattle.std.proofs.lemmas.Result.{IfOk-weaker}
use Rattle.driver.proofs.CallerLemmas.{new_ones_are_idle}
use Rattle.srcu.proofs.Keeping.{both_ok, new_writers}
use Rattle.srcu.proofs.making.make.Goals as goal

pub returns-clause-idle : goal.returns-clause-idle
returns-clause-idle g c = IfOk-weaker c.new.result _ _ (λ m made. new_ones_are_idle _ _ made) c.new.ensures.made

pub returns-clause-writers : goal.returns-clause-writers
returns-clause-writers g c = both_ok c.new.result _ _ _ (λ m many made. new_writers m.0 _ _ _ many made) c.new.ensures.cells c.new.ensures.writers
