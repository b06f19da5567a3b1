use Rattle.std.proofs.Common.{◌≡◌, refl, sym, ap, ◌∙◌, subst}
use Rattle.domain.specs.Glossary.{DomainView, differing}
use Rattle.domain.proofs.Acting.{still}
use Rattle.domain.proofs.Watchers.{names_some, named_empty}
use Rattle.domain.proofs.domain.Domain.holders.Goals as goal

pub returns-clause-empty : goal.returns-clause-empty
returns-clause-empty g c =
    let many = c.self.invariant.count ∙ (ap (λ (z : DomainView). z.processors) c.self.view_is ∙ sym c.requires.many) in
    let k = c.counters-counters.result in
    let is = subst (λ n. c.name_differing.result.items ≡ differing k.unlocks.items k.locks.items n) many c.name_differing.ensures in
    named_empty _ _ _ _ (names_some c.counters-counters.ensures.counts _ c.if-counters.false is)

pub returns-in_err-named-clause-acts : goal.returns-in_err-named-clause-acts
returns-in_err-named-clause-acts g c = still c.args.cpu.now c.args.cpu.now refl refl
