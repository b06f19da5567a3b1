use Rattle.std.proofs.Common.{rules, ◌≡◌, refl, sym, subst}
use Rattle.funnel.specs.Calls.{IsOfProcessor}
use Rattle.domain.specs.Views.{CpuView}
use Rattle.domain.proofs.Acting.{start_acts}
use Rattle.domain.proofs.domain.Domain.start_poll.Goals as goal

pub ask-requires : goal.ask-requires
ask-requires g c = subst (λ (z : CpuView _). IsOfProcessor z.needs) (sym c.cpu.view_is) (c.args.cpu.now.cpu.processor, c.requires.asks)

pub returns-clause-acts : goal.returns-clause-acts
returns-clause-acts g c =
    let n : c.unwrap.result ≡ c.cookie-cookie.result.number = search rules in
    rw (← c.cpu.view_is) (start_acts _ _ c.cookie-cookie.result c.cookie-cookie.ensures c.unwrap.result n c.ask.result c.ask.ensures.asks refl refl)
