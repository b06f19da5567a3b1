-- Parts came home, and a device was taken out.
use Rattle.std.proofs.Common.{◌+◌, length, List, [], ◌∷◌, ◌++◌, refl, sym, ap, ◌∙◌, subst, arith, rules}
use Rattle.std.specs.List.{remove}
use Rattle.std.proofs.lemmas.List.{length-map, map-append}
use Rattle.boxes.specs.Boxes.{BoxWriterView, IsCellIn, cell_of}
use Rattle.registry.specs.Names.{all_kept, name_of, names_of}
use Rattle.registry.specs.Registry.{RegistryView}
use Rattle.registry.specs.Changing.{Collects}
use Rattle.registry.specs.Refusing.{IsNotRemoved}
use Rattle.registry.proofs.Parts.{same_names}
use Rattle.registry.proofs.Versions.{parts_names}
use Rattle.registry.proofs.Keeping.{cell_here, lends_keep, name_at, names_less, versions_keep}
use Rattle.registry.proofs.Growing.{counted_on, put_keeps, remove_keeps}
use Rattle.registry.proofs.Opening.{none_published, none_refused}
use Rattle.registry.proofs.Showing.{collected_shown, kept_shown, put_shown}
use Rattle.registry.proofs.registry.Registry.remove.Goals as goal

pub collect-requires : goal.collect-requires
collect-requires g c =
    (search rules, (cell_here c.args.domain.now c.args.cpu.now (cell_of c.self.inside.writer) c.requires.domain (subst (λ (z : RegistryView _ _ _). IsCellIn c.args.domain.now (cell_of z.writer)) (sym c.self.view_is) c.requires.cell), (c.self.inside.changes, c.self.invariant.registry)))

pub take_out-requires : goal.take_out-requires
take_out-requires g c =
    let h = c.collect.ensures in
    let r = h.registry c.self.inside.changes c.self.invariant.registry in (
      search rules,
      (
        h.stays c.args.domain.now c.requires.domain,
        (
          subst (IsCellIn c.args.domain.now) (sym (h.same ∙ ap (λ z. cell_of z.writer) c.self.view_is)) c.requires.cell,
          (
            r.numbered.ordered,
            (λ k d l. let n = (r.here_are k d l).few in omega (arith, n, r.few), r.versions.put),
          ),
        ),
      ),
    )

pub invariant_of-self-in-Err : goal.invariant_of-self-in-Err
invariant_of-self-in-Err g c =
    let p = c.in-Err.ensures.takes in
    rw (p.1, p.2) (record {
      registry = lends_keep g.K.Ord.cmp c.collect.new.writer c.collect.new.devices.here.items c.take_out.new.devices.here.items c.collect.new.devices.leaving.items c.self.inside.changes (c.collect.ensures.registry c.self.inside.changes c.self.invariant.registry) p.0;
      shown = kept_shown c.collect.new.writer c.collect.new.devices.here.items c.take_out.new.devices.here.items p.0.kept
          (collected_shown c.self.inside.writer c.collect.new.writer c.args.cpu.now.cpu c.collect.new.cpu.cpu c.self.inside.devices.here.items c.collect.new.devices.here.items c.collect.ensures.collects c.collect.ensures.here c.self.invariant.shown);
    })

pub returns-in-Err-clause-refused : goal.returns-in-Err-clause-refused
returns-in-Err-clause-refused g c =
    let ns = same_names c.self.inside.devices.here.items c.collect.new.devices.here.items c.collect.ensures.here ∙ ap (λ z. names_of z.here) c.self.view_is in
    subst (λ (names : List _). IsNotRemoved g.K.Ord.cmp c.args.key c.in-Err.refusal names c.take_out.new.writer) ns c.in-Err.ensures.refused

pub returns-in-Err-clause-removes : goal.returns-in-Err-clause-removes
returns-in-Err-clause-removes g c =
    let h = c.collect.ensures in
    let p = c.in-Err.ensures.takes in
    let v = c.self.view_is in
    record {
      here = same_names c.collect.new.devices.here.items c.take_out.new.devices.here.items p.0.kept ∙ (same_names c.self.inside.devices.here.items c.collect.new.devices.here.items h.here ∙ ap (λ z. names_of z.here) v);
      leaving = ap names_of p.1 ∙ (same_names c.self.inside.devices.leaving.items c.collect.new.devices.leaving.items h.leaving ∙ ap (λ z. names_of z.leaving) v);
      collects = rw (p.2, p.3) (subst (λ (w : BoxWriterView _ _). Collects w c.args.cpu.now.cpu c.collect.new.writer c.collect.new.cpu.cpu) (ap (λ z. z.writer) v) h.collects);
      rest = rw p.3 h.rest;
    }

pub invariant_of-self : goal.invariant_of-self
invariant_of-self g c =
    let p = c.in-Ok.ensures.takes.1 in
    let n = c.self.inside.changes in
    let few = c.in-Ok.ensures.takes.0 in
    let w = c.collect.new.writer in
    let more = record w { writer = record w.writer { version = w.writer.version + 1 } } in
    let here = c.collect.new.devices.here.items in
    let leaving = c.collect.new.devices.leaving.items in
    let r = c.collect.ensures.registry n c.self.invariant.registry in
    let gone = remove_keeps g.K.Ord.cmp more here leaving n p.place p.device (versions_keep g.K.Ord.cmp w more here leaving n refl refl (omega arith) r) p.inside (p.is p.device) in
    let q = p.puts.version in record {
      registry =
          put_keeps g.K.Ord.cmp more c.take_out.new.writer (remove here p.place) c.take_out.new.devices.here.items (leaving ++ p.device ∷ []) c.take_out.new.devices.leaving.items n (n + 1) q.slot p.shown
          (counted_on g.K.Ord.cmp more (remove here p.place) (leaving ++ p.device ∷ []) n gone few (omega (arith, r.versions.put)))
          (λ k d l. (gone.here_are k d l).few)
          (omega arith) p.leaves p.lends p.parts q.free.0 q.inside p.puts.stored (q.puts.puts.slots ∙ q.same.slots) (let a = q.puts.puts.version in let b = q.same.version in omega (arith, a, b));
      shown = put_shown w c.take_out.new.writer c.collect.new.cpu c.take_out.new.cpu p.shown p.cookie (remove here p.place) c.take_out.new.devices.here.items p.puts p.parts p.lends;
    }

pub returns-in-Ok-clause-removes : goal.returns-in-Ok-clause-removes
returns-in-Ok-clause-removes g c =
    let h = c.collect.ensures in
    let p = c.in-Ok.ensures.takes.1 in
    let v = c.self.view_is in
    let here = c.collect.new.devices.here.items in
    let leaving = c.collect.new.devices.leaving.items in
    let kept = h.here ∙ ap (λ z. all_kept z.here) v in
    let ns = same_names c.args.self.now.here here kept in
    let long = length-map here name_of in
    let same = ap length ns in
    let now = same_names (remove here p.place) c.take_out.new.devices.here.items p.lends.kept in record {
      place = p.place;
      inside = omega (arith, p.inside, long, same);
      device = name_of p.device;
      is = λ x. sym (name_at c.args.self.now.here here p.place (name_of p.device) kept p.inside (λ d. ap name_of (p.is d)) x);
      has = p.has;
      here = now ∙ names_less c.args.self.now.here here p.place kept;
      leaving = ap names_of p.leaves ∙ (map-append name_of leaving (p.device ∷ []) ∙ ap (λ l. l ++ name_of p.device ∷ []) (same_names c.self.inside.devices.leaving.items leaving h.leaving ∙ ap (λ z. names_of z.leaving) v));
      publishes = record {
        collected = c.collect.new.writer;
        at = c.collect.new.cpu;
        collects = subst (λ (w : BoxWriterView _ _). Collects w c.args.cpu.now.cpu c.collect.new.writer c.collect.new.cpu.cpu) (ap (λ z. z.writer) v) h.collects;
        rest = h.rest;
        shown = p.shown;
        cookie = p.cookie;
        puts = p.puts;
        shows = parts_names p.shown.value (remove here p.place) p.parts ∙ sym now;
      };
    }

-- No reading was opened

pub returns-in-Ok-clause-still_none : goal.returns-in-Ok-clause-still_none
returns-in-Ok-clause-still_none g c = none_published _ _ c.args.cpu.now c.take_out.new.cpu (returns-in-Ok-clause-removes g c).publishes

pub returns-in-Err-clause-still_none : goal.returns-in-Err-clause-still_none
returns-in-Err-clause-still_none g c = none_refused _ _ c.args.cpu.now c.take_out.new.cpu (returns-in-Err-clause-removes g c)
