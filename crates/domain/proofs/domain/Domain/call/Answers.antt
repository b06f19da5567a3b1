use Rattle.std.proofs.Common.{rules, ◌≡◌, ℕ, refl, sym, subst}
use Rattle.funnel.specs.Calls.{IsOfProcessor, Asks, IsAskedFor}
use Rattle.std.proofs.lemmas.Result.{err_from_is_err_and}
use Rattle.domain.specs.Views.{CpuView}
use Rattle.domain.proofs.Acting.{queue_acts, refusal_acts}
use Rattle.domain.proofs.domain.Domain.call.Goals as goal

pub ask-requires : goal.ask-requires
ask-requires g c = subst (λ (z : CpuView _). IsOfProcessor z.needs) (sym c.cpu.view_is) (c.args.cpu.now.cpu.processor, c.requires.asks)

pub returns-clause-acts : goal.returns-clause-acts
returns-clause-acts g c =
    let n : c.unwrap.result ≡ c.in_ok-receipt.receipt.cookie.number = search rules in
    let same = rw (← c.cpu.view_is) at c.requires.fits.cpu in
    rw (← c.cpu.view_is) (queue_acts c.self.inside.calls _ _ c.args.job same c.in_ok-receipt.receipt c.in_ok-receipt.ensures.queues c.unwrap.result n c.ask.result c.ask.ensures.asks refl)

pub returns-in_err-receipt-clause-acts : goal.returns-in_err-receipt-clause-acts
returns-in_err-receipt-clause-acts g c =
    let seat = c.in_err-receipt.ensures.queues.refuses.seat in
    let given = err_from_is_err_and c.from_residual.result c.from_residual.ensures.1 in
    let same : given.0 ≡ c.in_err-receipt.field-0.0 = search rules in
    rw (given.1, same, ← c.cpu.view_is) (refusal_acts c.self.inside.calls _ _ c.args.job (λ i. record { cpu = c.call.new.cpu; needs = c.cpu.inside.needs; turn = c.cpu.inside.turn; calls = seat i }) c.in_err-receipt.field-0.0 c.in_err-receipt.ensures.queues)

pub returns-clause-calls : goal.returns-clause-calls
returns-clause-calls g c =
    let n : c.unwrap.result ≡ c.in_ok-receipt.receipt.cookie.number = search rules in
    rw (← c.cpu.view_is, ← c.self.view_is) (record {
      queues = c.in_ok-receipt.ensures.queues;
      level = c.ask.result;
      asks = subst (λ (k : ℕ). Asks k c.cpu.inside.needs c.ask.result c.ask.new.self) n c.ask.ensures.asks;
      root = subst (λ (k : ℕ). IsAskedFor k c.ask.result c.ask.new.self) n c.ask.ensures.root;
      turn = refl;
    })
