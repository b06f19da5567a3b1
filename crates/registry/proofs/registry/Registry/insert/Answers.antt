-- Parts came home, and a device was put in.
use Rattle.std.proofs.Common.{◌≡◌, ◌+◌, ◌≤◌, length, List, slice_index_or, refl, sym, ap, ◌∙◌, subst, arith, rules}
use Rattle.std.specs.List.{AllWithin, insert}
use Rattle.std.specs.declared.cmp.Ordering.TheVariants.{Less, Greater}
use Rattle.std.proofs.lemmas.List.{length-map}
use Rattle.boxes.specs.Boxes.{BoxWriterView, IsCellIn, cell_of}
use Rattle.registry.specs.Names.{name_of, names_of}
use Rattle.registry.specs.Registry.{RegistryView}
use Rattle.registry.specs.Changing.{Collects}
use Rattle.registry.specs.Refusing.{IsNotInserted}
use Rattle.registry.proofs.Parts.{same_names}
use Rattle.registry.proofs.Versions.{parts_names}
use Rattle.registry.proofs.Keeping.{All-insert, cell_here, lends_keep, map-insert, versions_keep}
use Rattle.registry.proofs.Inserting.{within_map}
use Rattle.registry.proofs.Growing.{put_keeps, insert_keeps}
use Rattle.registry.proofs.Opening.{none_published, none_refused}
use Rattle.registry.proofs.Showing.{collected_shown, kept_shown, put_shown}
use Rattle.registry.proofs.registry.Registry.insert.Goals as goal

pub collect-requires : goal.collect-requires
collect-requires g c =
    (search rules, (cell_here c.args.domain.now c.args.cpu.now (cell_of c.self.inside.writer) c.requires.domain (subst (λ (z : RegistryView _ _ _). IsCellIn c.args.domain.now (cell_of z.writer)) (sym c.self.view_is) c.requires.cell), (c.self.inside.changes, c.self.invariant.registry)))

pub put_in-requires : goal.put_in-requires
put_in-requires g c =
    let h = c.collect.ensures in
    let r = h.registry c.self.inside.changes c.self.invariant.registry in (
      search rules,
      (
        h.stays c.args.domain.now c.requires.domain,
        (
          subst (IsCellIn c.args.domain.now) (sym (h.same ∙ ap (λ z. cell_of z.writer) c.self.view_is)) c.requires.cell,
          (
            r.numbered.ordered,
            (λ k d l. let n = (r.here_are k d l).few in omega (arith, n, r.few), r.versions.put),
          ),
        ),
      ),
    )

pub invariant_of-self-in-Err : goal.invariant_of-self-in-Err
invariant_of-self-in-Err g c =
    let p = c.in-Err.ensures.puts in
    rw (c.in-Err.ensures.leaving, p.2) (record {
      registry = lends_keep g.K.Ord.cmp c.collect.new.writer c.collect.new.devices.here.items c.put_in.new.devices.here.items c.collect.new.devices.leaving.items c.self.inside.changes (c.collect.ensures.registry c.self.inside.changes c.self.invariant.registry) p.1;
      shown = kept_shown c.collect.new.writer c.collect.new.devices.here.items c.put_in.new.devices.here.items p.1.kept
          (collected_shown c.self.inside.writer c.collect.new.writer c.args.cpu.now.cpu c.collect.new.cpu.cpu c.self.inside.devices.here.items c.collect.new.devices.here.items c.collect.ensures.collects c.collect.ensures.here c.self.invariant.shown);
    })

pub returns-in-Err-clause-refused : goal.returns-in-Err-clause-refused
returns-in-Err-clause-refused g c =
    let ns = same_names c.self.inside.devices.here.items c.collect.new.devices.here.items c.collect.ensures.here ∙ ap (λ z. names_of z.here) c.self.view_is in
    subst (λ (names : List _). IsNotInserted g.K.Ord.cmp c.args.key c.in-Err.refused.1 names c.put_in.new.writer) ns c.in-Err.ensures.refused

pub returns-in-Err-clause-inserts : goal.returns-in-Err-clause-inserts
returns-in-Err-clause-inserts g c =
    let h = c.collect.ensures in
    let p = c.in-Err.ensures.puts in
    let v = c.self.view_is in (
      p.0,
      record {
        here = same_names c.collect.new.devices.here.items c.put_in.new.devices.here.items p.1.kept ∙ (same_names c.self.inside.devices.here.items c.collect.new.devices.here.items h.here ∙ ap (λ z. names_of z.here) v);
        leaving = ap names_of c.in-Err.ensures.leaving ∙ (same_names c.self.inside.devices.leaving.items c.collect.new.devices.leaving.items h.leaving ∙ ap (λ z. names_of z.leaving) v);
        collects = rw (p.2, p.3) (subst (λ (w : BoxWriterView _ _). Collects w c.args.cpu.now.cpu c.collect.new.writer c.collect.new.cpu.cpu) (ap (λ z. z.writer) v) h.collects);
        rest = rw p.3 h.rest;
      },
    )

pub invariant_of-self : goal.invariant_of-self
invariant_of-self g c =
    let p = c.in-Ok.ensures.puts.1 in
    let n = c.self.inside.changes in
    let few = c.in-Ok.ensures.puts.0 in
    let w = c.collect.new.writer in
    let more = record w { writer = record w.writer { version = w.writer.version + 1 } } in
    let here = c.collect.new.devices.here.items in
    let leaving = c.collect.new.devices.leaving.items in
    let r = c.collect.ensures.registry n c.self.invariant.registry in
    let q = p.puts.version in record {
      registry =
          put_keeps g.K.Ord.cmp more c.put_in.new.writer (insert here p.place p.device) c.put_in.new.devices.here.items leaving c.put_in.new.devices.leaving.items n (n + 1) q.slot p.shown
          (insert_keeps g.met.K.Ord.total more here leaving n p.place p.device c.args.key (versions_keep g.K.Ord.cmp w more here leaving n refl refl (omega arith) r) few (omega (arith, r.versions.put)) p.key_is p.number_is p.home p.inside p.less p.greater)
          (All-insert (λ d. d.out ≤ n) here p.place p.device (omega (arith, p.home)) (λ k d l. (r.here_are k d l).few))
          (omega arith) c.in-Ok.ensures.leaving p.lends p.parts q.free.0 q.inside p.puts.stored (q.puts.puts.slots ∙ q.same.slots) (let a = q.puts.puts.version in let b = q.same.version in omega (arith, a, b));
      shown = put_shown w c.put_in.new.writer c.collect.new.cpu c.put_in.new.cpu p.shown p.cookie (insert here p.place p.device) c.put_in.new.devices.here.items p.puts p.parts p.lends;
    }

pub returns-in-Ok-clause-inserts : goal.returns-in-Ok-clause-inserts
returns-in-Ok-clause-inserts g c =
    let h = c.collect.ensures in
    let p = c.in-Ok.ensures.puts.1 in
    let v = c.self.view_is in
    let here = c.collect.new.devices.here.items in
    let ns = same_names c.self.inside.devices.here.items here h.here ∙ ap (λ z. names_of z.here) v in
    let long = length-map here name_of in
    let same = ap length ns in
    let now = same_names (insert here p.place p.device) c.put_in.new.devices.here.items p.lends.kept in
    let less = within_map name_of (λ m. g.K.Ord.cmp m.0 c.args.key ≡ Less) here 0 p.place p.inside p.less in
    let greater = within_map name_of (λ m. g.K.Ord.cmp m.0 c.args.key ≡ Greater) here p.place (length here) (omega arith) p.greater in record {
      place = p.place;
      inside = omega (arith, p.inside, long, same);
      less = subst (λ (xs : List _). AllWithin (λ m. g.K.Ord.cmp m.0 c.args.key ≡ Less) xs 0 p.place) ns less;
      greater = λ k d a b. subst (λ (xs : List _). g.K.Ord.cmp (slice_index_or xs k d).0 c.args.key ≡ Greater) ns (greater k d a (omega (arith, b, long, same)));
      here = now ∙ (map-insert name_of here p.place p.device ∙ (ap (λ xs. insert xs p.place (name_of p.device)) ns ∙ ap (insert (names_of c.args.self.now.here) p.place) (λ j. (p.key_is j, p.value_is j))));
      leaving = ap names_of c.in-Ok.ensures.leaving ∙ (same_names c.self.inside.devices.leaving.items c.collect.new.devices.leaving.items h.leaving ∙ ap (λ z. names_of z.leaving) v);
      publishes = record {
        collected = c.collect.new.writer;
        at = c.collect.new.cpu;
        collects = subst (λ (w : BoxWriterView _ _). Collects w c.args.cpu.now.cpu c.collect.new.writer c.collect.new.cpu.cpu) (ap (λ z. z.writer) v) h.collects;
        rest = h.rest;
        shown = p.shown;
        cookie = p.cookie;
        puts = p.puts;
        shows = parts_names p.shown.value (insert here p.place p.device) p.parts ∙ sym now;
      };
    }

-- No reading was opened

pub returns-in-Ok-clause-still_none : goal.returns-in-Ok-clause-still_none
returns-in-Ok-clause-still_none g c = none_published _ _ c.args.cpu.now c.put_in.new.cpu (returns-in-Ok-clause-inserts g c).publishes

pub returns-in-Err-clause-still_none : goal.returns-in-Err-clause-still_none
returns-in-Err-clause-still_none g c = none_refused _ _ c.args.cpu.now c.put_in.new.cpu (returns-in-Err-clause-inserts g c).1
