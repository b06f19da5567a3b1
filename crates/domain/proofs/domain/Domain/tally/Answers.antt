use Rattle.std.proofs.Common.{refl, sym, subst}
use Rattle.domain.specs.Views.{CpuView, IsOf}
use Rattle.domain.proofs.Staying.{still_with_calls}
use Rattle.domain.proofs.Watchers.{totals_act}
use Rattle.domain.proofs.domain.Domain.tally.Goals as goal

pub returns-clause-here : goal.returns-clause-here
returns-clause-here g c =
    let at = subst (λ (z : CpuView _). IsOf c.args.self.now z) (sym c.cpu.view_is) c.requires.here in
    let acts = totals_act (record { cpu = c.cpu.inside.cpu; needs = c.cpu.inside.needs; turn = c.cpu.inside.turn; calls = c.cpu.inside.calls }) (record { cpu = c.cpu.inside.cpu; needs = c.cpu.inside.needs; turn = c.cpu.inside.turn; calls = c.totals.new.self }) refl _ _ c.totals.ensures in
    still_with_calls _ _ _ at acts.adds.same refl

pub returns-clause-adds : goal.returns-clause-adds
returns-clause-adds g c = rw (← c.cpu.view_is) c.totals.ensures

pub returns-clause-acts : goal.returns-clause-acts
returns-clause-acts g c = rw (← c.cpu.view_is) (totals_act _ _ refl _ _ c.totals.ensures)
