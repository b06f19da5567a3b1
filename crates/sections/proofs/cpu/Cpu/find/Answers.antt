use Rattle.std.proofs.Common.{◌<◌, sym, ap, ◌∙◌, subst}
use Rattle.atomic_table.specs.Seated.{TableId}
use Rattle.sections.specs.Words.{cells_in}
use Rattle.sections.proofs.Pinning.{finds_cpu, finds_found, finds, finds_pinned}
use Rattle.sections.proofs.cpu.Cpu.find.Goals as goal

pub invariant_of-result : goal.invariant_of-result
invariant_of-result g c = finds_found c.self.invariant c.section.invariant.right c.find_in-word.ensures.finds (subst (λ (t : TableId). c.args.cell < cells_in t) (sym (ap (λ z. z.domain) c.self.view_is)) c.requires.cell)

pub invariant_of-self : goal.invariant_of-self
invariant_of-self g c = finds_cpu c.self.invariant c.section.invariant.right c.find_in-word.ensures.finds

pub returns-clause-finds : goal.returns-clause-finds
returns-clause-finds g c = rw (← c.self.view_is, ← c.section.view_is) (finds c.self.invariant c.section.invariant.right c.find_in-word.ensures.finds)

pub returns-clause-pinned : goal.returns-clause-pinned
returns-clause-pinned g c = rw (← c.section.view_is) (finds_pinned c.self.invariant c.section.invariant.right c.find_in-word.ensures.finds (ap (λ z. z.domain) c.section.view_is ∙ (c.requires.here ∙ sym (ap (λ z. z.domain) c.self.view_is))))
