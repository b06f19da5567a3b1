-- Finding a box opens no section, and the held one stays of the domain.
use Rattle.srcu.proofs.Boxing.{none_sought, held_here}
use Rattle.srcu.proofs.worker.Worker.find_held_box.Goals as goal

pub invariant_of-self : goal.invariant_of-self
invariant_of-self g c = record { here = c.find.ensures.stays _ c.self.invariant.here; closed = none_sought c.args.boxes.now c.args.held c.self.inside.cpu c.find.new.cpu c.find.result c.find.ensures.finds c.self.invariant.closed }

pub returns-clause-here : goal.returns-clause-here
returns-clause-here g c = held_here _ c.args.boxes.now c.args.held _ _ c.find.result c.find.ensures.finds c.requires.here
