use Rattle.session.proofs.Spent.{are_spent}
use Rattle.session.proofs.entry.cleanup.Entry+ref+A.cleanup.Goals as goal

pub drop_all-requires : goal.drop_all-requires
drop_all-requires g c = are_spent c.self.inside.domain c.self.inside.names.tokens c.self.inside.parking c.self.inside.outs.items c.self.invariant.0 c.self.invariant.1 c.in-Ok.ensures.unused.closed c.in-Ok.ensures.unused.run
