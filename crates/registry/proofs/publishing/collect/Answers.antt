-- One version more came back, and its parts came home.
use Rattle.std.proofs.Common.{List, [], ◌∷◌, All, refl, sym, ap, ◌∙◌, subst, arith, rules}
use Rattle.domain.specs.Views.{with_cpu}
use Rattle.boxes.specs.Boxes.{cell_of}
use Rattle.registry.specs.declared.index.Entry.{Entry}
use Rattle.registry.specs.Names.{ComesHome, ShowsItsOwn}
use Rattle.registry.proofs.Counts.{fewer}
use Rattle.registry.proofs.Versions.{cell_kept}
use Rattle.registry.proofs.Keeping.{home_keeps, versions_keep}
use Rattle.registry.proofs.publishing.collect.Goals as goal

pub loop-version-init : goal.loop-version-init
loop-version-init g c = record {
  here = refl;
  leaving = refl;
  registry = λ n r. r;
  same = refl;
  cell = c.requires.cell;
  comes = ([], (refl, refl));
  rest = refl;
  stays = λ d h. h;
}

pub reclaim-requires : goal.reclaim-requires
reclaim-requires g c = (search rules, c.loop-version.invariant.cell)

pub take_home-requires : goal.take_home-requires
take_home-requires g c =
    let r = c.loop-version.invariant.registry c.requires.registry.0 c.requires.registry.1 in
    let b = c.in-Some.ensures.back in
    let is = c.into_entries.ensures ∙ (c.into_inner.ensures ∙ b.1.0) in
    record { numbered = (r.who, subst (λ (es : List (Entry _ _)). All (ShowsItsOwn r.who) es) (sym is) (r.versions.own b.2.slot b.0 b.2.takes.was), r.numbered) }

pub loop-version-preserved : goal.loop-version-preserved
loop-version-preserved g c =
    let v = c.loop-version.invariant in
    let b = c.in-Some.ensures.back in
    let h = c.take_home.ensures in
    let is = c.into_entries.ensures ∙ (c.into_inner.ensures ∙ b.1.0) in record {
      here = h.here.kept ∙ v.here;
      leaving = h.leaving.kept ∙ v.leaving;
      registry = λ n r. home_keeps g.K.Ord.cmp c.loop-version.writer c.reclaim.new.self c.loop-version.devices.here.items c.take_home.new.self.here.items c.loop-version.devices.leaving.items c.take_home.new.self.leaving.items n b.2.slot b.0
          (v.registry n r) b.2.takes.was b.2.takes.stored (b.2.takes.same.slots ∙ b.2.reclaims.same.0.slots) (b.2.takes.same.version ∙ b.2.reclaims.same.0.version)
          (subst (λ (es : List (Entry _ _)). ComesHome es c.loop-version.devices.here.items c.take_home.new.self.here.items) is h.here)
          (subst (λ (es : List (Entry _ _)). ComesHome es c.loop-version.devices.leaving.items c.take_home.new.self.leaving.items) is h.leaving);
      same = c.in-Some.ensures.same ∙ v.same;
      cell = cell_kept c.loop-version.cpu.cpu c.reclaim.new.cpu.cpu (cell_of c.loop-version.writer) (cell_of c.reclaim.new.self) c.in-Some.ensures.same v.cell b.2.reclaims.same.1;
      comes = (c.in-Some.version ∷ v.comes.0, (c.loop-version.writer, c.loop-version.cpu.cpu, v.comes.1, b));
      rest = c.in-Some.ensures.rest ∙ ap (with_cpu c.reclaim.new.cpu.cpu) v.rest;
      stays = λ d o. c.in-Some.ensures.stays d (v.stays d o);
    }

pub loop-version-smaller : goal.loop-version-smaller
loop-version-smaller g c =
    let b = c.in-Some.ensures.back in fewer c.loop-version.writer.stored c.reclaim.new.self.stored b.2.slot b.0 b.2.takes.was b.2.takes.stored

pub returns-clause-collects : goal.returns-clause-collects
returns-clause-collects g c = let v = c.loop-version.invariant in record { back = v.comes.0; between = c.loop-version.writer; at = c.loop-version.cpu.cpu; comes = v.comes.1; last = c.in_default.ensures.back }

pub returns-clause-registry : goal.returns-clause-registry
returns-clause-registry g c =
    let none = c.in_default.ensures.back in λ n r. versions_keep g.K.Ord.cmp c.loop-version.writer c.reclaim.new.self c.loop-version.devices.here.items c.loop-version.devices.leaving.items n
    (ap (λ z. z.stored) none.rest) none.reclaims.same.0.slots (let e = none.reclaims.same.0.version in omega (arith, e)) (c.loop-version.invariant.registry n r)

pub returns-clause-rest : goal.returns-clause-rest
returns-clause-rest g c = c.in_default.ensures.rest ∙ ap (with_cpu c.reclaim.new.cpu.cpu) c.loop-version.invariant.rest

pub returns-clause-stays : goal.returns-clause-stays
returns-clause-stays g c = λ d o. c.in_default.ensures.stays d (c.loop-version.invariant.stays d o)

pub returns-clause-same : goal.returns-clause-same
returns-clause-same g c = c.in_default.ensures.same ∙ c.loop-version.invariant.same
