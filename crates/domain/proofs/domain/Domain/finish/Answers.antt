use Rattle.std.proofs.Common.{refl, sym, subst}
use Rattle.domain.specs.Views.{CpuView, IsOf}
use Rattle.domain.proofs.Staying.{still_with_calls}
use Rattle.domain.proofs.Acting.{finish_acts}
use Rattle.domain.proofs.domain.Domain.finish.Goals as goal

pub returns-clause-here : goal.returns-clause-here
returns-clause-here g c =
    let at = subst (λ (z : CpuView _). IsOf c.args.self.now z) (sym c.cpu.view_is) c.requires.domain in
    still_with_calls _ _ _ at c.finish.ensures.same refl

pub returns-clause-acts : goal.returns-clause-acts
returns-clause-acts g c = rw (← c.cpu.view_is) (finish_acts _ _ refl c.self.inside.calls c.args.batch c.finish.ensures.finishes)
