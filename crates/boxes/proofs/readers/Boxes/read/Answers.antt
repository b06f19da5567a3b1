-- What is known of the vault is known at the look of the section, and what it found is of the vault.
use Rattle.std.proofs.Common.{ℕ, ◌*◌, sym, ap, ◌∙◌, subst}
use Rattle.atomic_table.specs.Seated.{TableId}
use Rattle.sections.specs.Boxes.{KnowsVault}
use Rattle.boxes.specs.Insides.{view_of_boxes}
use Rattle.boxes.proofs.Shown.{shows_or_refuses}
use Rattle.boxes.proofs.readers.Boxes.read.Goals as goal

pub show_in_section-requires-clause-vault : goal.show_in_section-requires-clause-vault
show_in_section-requires-clause-vault g c =
    let count = ap (λ z. z.processors) c.self.view_is ∙ c.requires.cell.1 in
    rw (c.deref_mut.ensures.shows) (subst (λ (z : ℕ × TableId). KnowsVault c.self.inside.cell (8 * z.0) z.1 c.self.inside.first.texts) (λ i. (count i, sym c.deref.ensures i)) c.self.invariant.knows)

pub returns-clause-shows : goal.returns-clause-shows
returns-clause-shows g c = rw (← c.self.view_is) (shows_or_refuses g.F.FnOnce c.args.show (view_of_boxes c.self.inside) c.args.cpu.now.cpu c.show_in_section.new.self c.self.inside.first c.self.invariant.knows c.show_in_section.result (rw c.deref_mut.ensures.shows at c.show_in_section.ensures.shows))
