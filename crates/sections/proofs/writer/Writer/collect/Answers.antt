use Rattle.std.proofs.Common.{ℕ, sym, ap, ◌∙◌, subst}
use Rattle.sections.specs.Glossary.{HasKey, IsNextToCollect, Collects, CpuView, IsOwn, WriterView, SlotView, view_of_writer}
use Rattle.sections.proofs.Boxes.{can_write, can_handle, is_next, empties_writer, collects}
use Rattle.sections.proofs.writer.Writer.collect.Goals as goal

pub empty_key-requires-clause-pen : goal.empty_key-requires-clause-pen
empty_key-requires-clause-pen g c =
    let own = subst (λ (z : WriterView × SlotView). IsOwn z.0 z.1) (λ i. (sym c.self.view_is i, sym c.slot.view_is i)) c.requires.own in
    rw c.deref.ensures (
      can_handle c.self.invariant c.cpu.invariant (ap (λ z. z.domain) c.self.view_is ∙ (sym c.requires.here ∙ ap (λ z. z.domain) (sym c.cpu.view_is))) c.args.processor c.slot.inside.slot c.args.vault.now c.slot.invariant.low
          (subst (λ (z : CpuView × SlotView × WriterView). HasKey z.0.processors c.args.processor z.1.slot c.args.vault.now z.2) (λ i. (sym c.cpu.view_is i, sym c.slot.view_is i, sym c.self.view_is i)) c.requires.key),
      can_write c.self.invariant c.slot.inside.slot own.inside own.out,
    )

pub empty_key-requires-clause-next : goal.empty_key-requires-clause-next
empty_key-requires-clause-next g c = is_next c.self.invariant c.args.processor c.slot.inside.slot (subst (λ (z : SlotView × WriterView). IsNextToCollect c.args.processor z.0.slot z.1) (λ i. (sym c.slot.view_is i, sym c.self.view_is i)) c.requires.next)

pub invariant_of-self : goal.invariant_of-self
invariant_of-self g c = empties_writer c.self.invariant c.empty_key.result c.empty_key.ensures

pub returns : goal.returns
returns g c = let P : ℕ → Type 0 = λ n. Collects n c.args.processor c.slot.inside.slot (view_of_writer c.self.inside) (view_of_writer (record c.self.inside { seat = c.empty_key.new.pen })) c.empty_key.result in
    rw (← c.self.view_is, ← c.slot.view_is, ← c.cpu.view_is) (subst P (ap (λ z. z.shared.key.processors) c.deref.ensures) (collects c.self.invariant c.empty_key.result c.empty_key.ensures))
