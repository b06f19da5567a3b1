use Rattle.sections.proofs.Meeting.{ties_from}
use Rattle.sections.proofs.cpu.Cpu.tie.Goals as goal

pub returns : goal.returns
returns g c = ties_from _ _ _ _ _ _ c.cover.ensures.hears c.cover.ensures.other c.admit.ensures.this c.admit.ensures.other
