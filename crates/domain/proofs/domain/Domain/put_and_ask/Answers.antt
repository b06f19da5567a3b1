use Rattle.std.proofs.Common.{rules, ◌≡◌, refl, sym, subst}
use Rattle.funnel.specs.Calls.{IsOfProcessor}
use Rattle.domain.specs.Views.{CpuView}
use Rattle.domain.proofs.Acting.{put_asks}
use Rattle.domain.proofs.domain.Domain.put_and_ask.Goals as goal

pub ask-requires : goal.ask-requires
ask-requires g c = subst (λ (z : CpuView _). IsOfProcessor z.needs) (sym c.cpu.view_is) (c.args.cpu.now.cpu.processor, c.requires.domain.asks)

pub returns-clause-acts : goal.returns-clause-acts
returns-clause-acts g c =
    let n : c.unwrap.result ≡ c.put-cookie.result = search rules in
    rw (← c.cpu.view_is) (put_asks _ _ _ _ _ _ c.put-cookie.ensures.puts c.unwrap.result n c.ask.result c.ask.ensures.asks refl refl)
