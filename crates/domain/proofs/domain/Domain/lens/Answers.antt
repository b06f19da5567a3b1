use Rattle.std.proofs.Common.{refl, sym, subst}
use Rattle.domain.specs.Views.{CpuView, IsOf}
use Rattle.domain.proofs.Staying.{still_with_calls}
use Rattle.domain.proofs.Acting.{lens_acts}
use Rattle.domain.proofs.domain.Domain.lens.Goals as goal

pub returns-clause-here : goal.returns-clause-here
returns-clause-here g c =
    let at = subst (λ (z : CpuView _). IsOf c.args.self.now z) (sym c.cpu.view_is) c.requires.domain in
    let acts = lens_acts (record { cpu = c.cpu.inside.cpu; needs = c.cpu.inside.needs; turn = c.cpu.inside.turn; calls = c.cpu.inside.calls }) _
    (λ i. record { cpu = c.cpu.inside.cpu; needs = c.cpu.inside.needs; turn = c.cpu.inside.turn; calls = c.lens.new.seat }) c.args.processor c.lens.result c.lens.ensures.found in
    still_with_calls _ _ _ at acts.adds.same refl

pub returns-clause-acts : goal.returns-clause-acts
returns-clause-acts g c = rw (← c.cpu.view_is) (lens_acts _ _ (λ i. record { cpu = c.cpu.inside.cpu; needs = c.cpu.inside.needs; turn = c.cpu.inside.turn; calls = c.lens.new.seat }) c.args.processor c.lens.result c.lens.ensures.found)
