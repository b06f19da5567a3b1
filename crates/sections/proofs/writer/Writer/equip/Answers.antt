use Rattle.std.proofs.Common.{sym, ap, ◌∙◌, subst}
use Rattle.sections.specs.Glossary.{IsNextKey, CpuView, WriterView}
use Rattle.sections.proofs.Boxes.{next_key, can_equip, equips_writer, equips}
use Rattle.sections.proofs.writer.Writer.equip.Goals as goal

pub lay_key-requires-clause-pen : goal.lay_key-requires-clause-pen
lay_key-requires-clause-pen g c = rw c.deref.ensures (can_equip c.self.invariant c.cpu.invariant (ap (λ z. z.domain) c.self.view_is ∙ (sym c.requires.here ∙ ap (λ z. z.domain) (sym c.cpu.view_is))) c.args.processor c.args.slot c.args.key
    (subst (λ (z : CpuView × WriterView). IsNextKey z.0.processors c.args.processor c.args.slot c.args.key z.1) (λ i. (sym c.cpu.view_is i, sym c.self.view_is i)) c.requires.next))

pub lay_key-requires-clause-key : goal.lay_key-requires-clause-key
lay_key-requires-clause-key g c = next_key c.self.invariant c.args.cpu.now.processors c.args.processor c.args.slot c.args.key
    (subst (λ (z : WriterView). IsNextKey c.args.cpu.now.processors c.args.processor c.args.slot c.args.key z) (sym c.self.view_is) c.requires.next)

pub invariant_of-self : goal.invariant_of-self
invariant_of-self g c = equips_writer c.self.invariant c.lay_key.ensures

pub returns : goal.returns
returns g c = rw (← c.self.view_is) (equips c.self.invariant c.lay_key.ensures)
