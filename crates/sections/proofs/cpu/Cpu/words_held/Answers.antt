use Rattle.std.proofs.Common.{sym, ap, ◌∙◌}
use Rattle.sections.proofs.Pinning.{pinned_as, remembers}
use Rattle.sections.proofs.Wholes.{loads_all_cpu, reads_words}
use Rattle.sections.proofs.cpu.Cpu.words_held.Goals as goal

pub words_in-requires-clause-found : goal.words_in-requires-clause-found
words_in-requires-clause-found g c =
    remembers c.found.invariant (pinned_as c.section.view_is c.found.view_is c.pin.invariant)
    (ap (λ z. z.domain) c.section.view_is ∙ (ap (λ z. z.section.domain) c.pin.view_is ∙ (c.requires.here ∙ (ap (λ z. z.domain) (sym c.self.view_is) ∙ (c.self.invariant.placed.seated ∙ ap (λ z. z.shared.table_id) (sym c.deref.ensures))))))

pub invariant_of-self : goal.invariant_of-self
invariant_of-self g c = loads_all_cpu c.found.invariant (pinned_as c.section.view_is c.found.view_is c.pin.invariant) c.self.invariant c.section.invariant.right c.words_in.ensures.loads

pub returns-clause-reads : goal.returns-clause-reads
returns-clause-reads g c =
    rw (← c.self.view_is, ← c.pin.view_is, ← c.section.view_is, ← c.found.view_is) (reads_words c.found.invariant (pinned_as c.section.view_is c.found.view_is c.pin.invariant) c.self.invariant c.section.invariant.right c.words_in.ensures.loads)
