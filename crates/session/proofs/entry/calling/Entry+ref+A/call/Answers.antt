use Rattle.session.proofs.Callbacks.{entry_asked}
use Rattle.session.proofs.entry.calling.Entry+ref+A.call.Goals as goal

pub invariant_of-self : goal.invariant_of-self
invariant_of-self g c = entry_asked c.self.invariant c.call.ensures.domain c.args.processor c.args.name c.call.result c.call.ensures.list c.call.ensures.answer
