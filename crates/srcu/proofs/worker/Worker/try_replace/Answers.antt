-- Replacing opens no section.
use Rattle.srcu.proofs.Boxing.{none_replaced}
use Rattle.srcu.proofs.Putting.{puts_tried}
use Rattle.srcu.proofs.Updating.{since_tried, tries_box}
use Rattle.srcu.proofs.worker.Worker.try_replace.Goals as goal

pub invariant_of-self : goal.invariant_of-self
invariant_of-self g c = record { here = c.replace.ensures.here; closed = none_replaced _ _ _ _ _ c.replace.result c.replace.ensures.puts c.self.invariant.closed }

pub returns-clause-replaces : goal.returns-clause-replaces
returns-clause-replaces g c = rw (← c.self.view_is) (tries_box _ _ _ _ _ c.replace.result c.replace.ensures.puts)

pub returns-clause-since : goal.returns-clause-since
returns-clause-since g c = rw (← c.self.view_is) (since_tried _ _ _ _ _ c.replace.result c.replace.ensures.puts)

pub returns-clause-only : goal.returns-clause-only
returns-clause-only g c = rw (← c.self.view_is) (puts_tried (λ cell version. ⊥) _ _ _ _ _ c.replace.result c.replace.ensures.puts)
