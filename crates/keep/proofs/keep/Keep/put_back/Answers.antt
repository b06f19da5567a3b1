use Rattle.std.proofs.Common.{ap, sym, ◌∙◌, arith}
use Rattle.keep.proofs.Locking.{puts_back}
use Rattle.keep.proofs.keep.Keep.put_back.Goals as goal

pub store-requires : goal.store-requires
store-requires g c = let one = c.self.invariant.0 in (
  c.exchange.ensures.0 ∙ (c.loan.view_is ∙ (c.requires.loan ∙ sym (ap (λ k. k.lock) c.self.view_is))),
  omega (arith, one),
  puts_back g.T.Keyed.key c.self.inside.table.shared.key _ _ _ _ _ _ c.self.invariant.1 c.exchange.ensures.3 (c.requires.value ∙ sym (ap (λ k. k.key) c.self.view_is)),
)
