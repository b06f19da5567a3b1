use Rattle.std.proofs.Common.{refl, sym, subst}
use Rattle.domain.specs.Views.{CpuView, IsOf}
use Rattle.domain.proofs.Staying.{still_with_both}
use Rattle.domain.proofs.Acting.{take_acts}
use Rattle.domain.proofs.domain.Domain.take_ready.Goals as goal

pub returns-clause-here : goal.returns-clause-here
returns-clause-here g c =
    let at = subst (λ (z : CpuView g.row.J.Denot). IsOf c.args.self.now z) (sym c.cpu.view_is) c.requires.domain in
    still_with_both _ _ _ at c.take_ready.ensures.same.0 c.take_ready.ensures.same.1 refl

pub returns-clause-acts : goal.returns-clause-acts
returns-clause-acts g c = rw (← c.cpu.view_is) (take_acts _ _ refl c.self.inside.calls c.args.processor c.args.max c.take_ready.result c.take_ready.ensures.takes)
