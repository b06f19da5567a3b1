-- The writer tells, and the version shows what is here.
use Rattle.std.proofs.Common.{sym}
use Rattle.registry.proofs.Showing.{terms_show}
use Rattle.registry.proofs.registry.Registry.terms.Goals as goal

pub returns-clause-current : goal.returns-clause-current
returns-clause-current g c = rw (sym c.self.view_is) c.terms.ensures

pub returns-clause-shows : goal.returns-clause-shows
returns-clause-shows g c = rw (sym c.self.view_is) (terms_show c.self.inside.writer c.self.inside.devices.here.items c.terms.result c.self.invariant.shown c.terms.ensures)
