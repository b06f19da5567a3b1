-- Parts came home, and a device came back.
use Rattle.std.proofs.Common.{ap, ◌∙◌, sym, subst, rules}
use Rattle.boxes.specs.Boxes.{IsCellOf, cell_of}
use Rattle.registry.specs.Names.{all_kept, names_of}
use Rattle.registry.specs.Registry.{RegistryView}
use Rattle.registry.proofs.Parts.{same_names}
use Rattle.registry.proofs.Keeping.{whole_keeps, returns_whole}
use Rattle.registry.proofs.Opening.{none_collected}
use Rattle.registry.proofs.Showing.{collected_shown, kept_shown}
use Rattle.registry.proofs.Staying.{cell_collected}
use Rattle.registry.proofs.registry.Registry.reclaim.Goals as goal

pub collect-requires : goal.collect-requires
collect-requires g c =
    (search rules, (subst (λ (z : RegistryView _ _ _). IsCellOf c.args.cpu.now.cpu (cell_of z.writer)) (sym c.self.view_is) c.requires.cell, (c.self.inside.changes, c.self.invariant.registry)))

pub invariant_of-self : goal.invariant_of-self
invariant_of-self g c = record {
  registry =
      whole_keeps g.K.Ord.cmp c.collect.new.writer c.collect.new.devices.here.items c.take_whole.new.self.here.items c.collect.new.devices.leaving.items c.take_whole.new.self.leaving.items c.self.inside.changes c.take_whole.result
      (c.collect.ensures.registry c.self.inside.changes c.self.invariant.registry)
      c.take_whole.ensures.here c.take_whole.ensures.takes;
  shown = kept_shown c.collect.new.writer c.collect.new.devices.here.items c.take_whole.new.self.here.items (ap all_kept c.take_whole.ensures.here)
      (collected_shown c.self.inside.writer c.collect.new.writer c.args.cpu.now.cpu c.collect.new.cpu.cpu c.self.inside.devices.here.items c.collect.new.devices.here.items c.collect.ensures.collects c.collect.ensures.here c.self.invariant.shown);
}

pub returns-clause-here : goal.returns-clause-here
returns-clause-here g c = ap names_of c.take_whole.ensures.here ∙ (same_names c.self.inside.devices.here.items c.collect.new.devices.here.items c.collect.ensures.here ∙ ap (λ z. names_of z.here) c.self.view_is)

pub returns-clause-returns : goal.returns-clause-returns
returns-clause-returns g c =
    let none = c.collect.ensures.collects.last in
    returns_whole g.K.Ord.cmp c.collect.new.writer c.collect.new.devices.here.items c.self.inside.changes c.collect.ensures.collects.between.writer.slots c.take_whole.result c.args.self.now.leaving c.collect.new.devices.leaving.items c.take_whole.new.self.leaving.items
    (c.collect.ensures.registry c.self.inside.changes c.self.invariant.registry) (sym none.reclaims.same.0.slots) none.none (c.collect.ensures.leaving ∙ ap (λ z. all_kept z.leaving) c.self.view_is) c.take_whole.ensures.takes

-- The cell is still of the processor's domain, and no reading was opened

pub returns-clause-cell : goal.returns-clause-cell
returns-clause-cell g c =
    subst (IsCellOf c.collect.new.cpu.cpu) (sym (c.collect.ensures.same ∙ ap (λ z. cell_of z.writer) c.self.view_is))
    (cell_collected (cell_of c.args.self.now.writer) c.self.inside.writer c.collect.new.writer c.args.cpu.now.cpu c.collect.new.cpu.cpu c.collect.ensures.collects c.requires.cell)

pub returns-clause-still_none : goal.returns-clause-still_none
returns-clause-still_none g c = none_collected c.self.inside.writer c.collect.new.writer c.args.cpu.now c.collect.new.cpu c.collect.ensures.collects
