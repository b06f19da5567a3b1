use Rattle.std.proofs.Common.{ℕ, ◌<◌, sym, ap, ◌∙◌, subst}
use Rattle.sections.specs.Glossary.{HasKey, HasRoom, CpuView, IsOwn, WriterView, SlotView}
use Rattle.sections.proofs.Boxes.{can_write, can_handle, lays_few, lays_writer, lays}
use Rattle.sections.proofs.writer.Writer.lay.Goals as goal

pub lay_parts-requires-clause-pen : goal.lay_parts-requires-clause-pen
lay_parts-requires-clause-pen g c =
    let own = subst (λ (z : WriterView × SlotView). IsOwn z.0 z.1) (λ i. (sym c.self.view_is i, sym c.slot.view_is i)) c.requires.own in
    rw c.deref.ensures (
      can_handle c.self.invariant c.cpu.invariant (ap (λ z. z.domain) c.self.view_is ∙ (sym c.requires.here ∙ ap (λ z. z.domain) (sym c.cpu.view_is))) c.args.processor c.slot.inside.slot c.args.vault.now c.slot.invariant.low
          (subst (λ (z : CpuView × SlotView × WriterView). HasKey z.0.processors c.args.processor z.1.slot c.args.vault.now z.2) (λ i. (sym c.cpu.view_is i, sym c.slot.view_is i, sym c.self.view_is i)) c.requires.key),
      can_write c.self.invariant c.slot.inside.slot own.inside own.out,
    )

pub lay_parts-requires-clause-fits : goal.lay_parts-requires-clause-fits
lay_parts-requires-clause-fits g c = lays_few c.self.invariant c.slot.inside.slot c.args.pile.part.count c.args.pile.part.round (subst (λ (n : ℕ). 0 < n) c.args.pile.counted c.args.pile.some)
    (subst (λ (z : SlotView × WriterView). HasRoom z.0.slot c.args.pile.part.count c.args.pile.part.round z.1) (λ i. (sym c.slot.view_is i, sym c.self.view_is i)) c.requires.room)

pub invariant_of-self : goal.invariant_of-self
invariant_of-self g c = lays_writer c.self.invariant c.lay_parts.ensures

pub returns : goal.returns
returns g c = rw (← c.self.view_is, ← c.slot.view_is) (lays c.self.invariant c.lay_parts.ensures)
