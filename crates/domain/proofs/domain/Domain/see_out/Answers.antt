use Rattle.std.proofs.Common.{refl, sym, ap, subst}
use Rattle.calls.specs.Views.{CallSeatView}
use Rattle.domain.specs.Views.{CpuView, IsOf}
use Rattle.domain.proofs.Staying.{still_with_calls}
use Rattle.domain.proofs.Acting.{out_acts}
use Rattle.domain.proofs.domain.Domain.see_out.Goals as goal

-- the load changes nothing of the seat but what it has seen
pub returns-clause-here : goal.returns-clause-here
returns-clause-here g c =
    let at = subst (λ (z : CpuView _). IsOf c.args.self.now z) (sym c.cpu.view_is) c.requires.domain in
    let same = c.see_out.ensures.out.covers.same in
    still_with_calls _ _ _ at (ap (λ (z : CallSeatView _). z.tallies) same, ap (λ (z : CallSeatView _). z.processors) same, ap (λ (z : CallSeatView _). z.processor) same, ap (λ (z : CallSeatView _). z.domain) same) refl

pub returns-clause-acts : goal.returns-clause-acts
returns-clause-acts g c = rw (← c.cpu.view_is) (out_acts _ _ refl c.see_out.ensures.out)
