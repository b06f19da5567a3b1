-- A device was put where another one stood, and shown; or the other one was put back.
use Rattle.std.proofs.Common.{◌≡◌, ◌^◌, ◌<◌, List, [], ◌∷◌, ◌++◌, All, inl, sym, ap, ◌∙◌, subst, arith, rules, vec_len}
use Rattle.std.specs.Vec.{vec_capacity}
use Rattle.std.specs.declared.cmp.Ordering.TheVariants.{Equal}
use Rattle.std.proofs.lemmas.List.{get_or_read}
use Rattle.registry.specs.declared.device.Device.{Device}
use Rattle.registry.specs.Order.{AreInOrder}
use Rattle.registry.specs.Names.{Lends, names_of}
use Rattle.registry.specs.Registry.{AreParts, keys_of}
use Rattle.registry.proofs.Parts.{kept_length, pushed}
use Rattle.registry.proofs.Inserting.{all_swap, length_swap, order_swap, swap_back, swapped_is}
use Rattle.registry.proofs.Refused.{refused_over, taken, untaken}
use Rattle.registry.proofs.placing.exchange.Goals as goal

pub publish-requires : goal.publish-requires
publish-requires g c =
    let e = c.in-Ok.ensures in
    let ds = c.args.devices.now.here.items in
    let n = c.new-fresh.ensures in
    let items = c.put_at-old.ensures.here in
    let r = c.put_at-old.ensures.old in
    let few : (c.new-fresh.result.out) < 2 ^ 62 = omega (arith, n.3) in
    let key = n.0 ∙ ap (λ z. z.key) (get_or_read ds c.in-Ok.place c.index-at.result.now e.0 c.index-at.ensures c.put_at-old.result ∙ sym r) in (
      search rules,
      (
        c.requires.domain,
        (
          c.requires.cell,
          (
            subst (λ (xs : List (Device _ _ _)). AreInOrder g.K.Ord.cmp (keys_of xs)) (sym items) (order_swap g.met.K.Ord.total ds c.in-Ok.place c.put_at-old.result c.new-fresh.result e.0 r key c.requires.ordered),
            subst (λ (xs : List (Device _ _ _)). All (λ d. d.out < 2 ^ 62) xs) (sym items) (all_swap (λ (d : Device _ _ _). d.out < 2 ^ 62) ds c.in-Ok.place c.put_at-old.result c.new-fresh.result e.0 r few (λ k x l. let m = c.requires.room k x l in omega (arith, m))),
          ),
        ),
      ),
    )

pub put_at-fresh-requires : goal.put_at-fresh-requires
put_at-fresh-requires g c =
    let e = c.in-Ok.ensures in
    let ds = c.args.devices.now.here.items in
    let l = subst (λ (xs : List (Device _ _ _)). Lends 0 xs c.publish.new.devices.here.items) c.put_at-old.ensures.here c.in-Err-publish.ensures.puts.0 in
    let m = kept_length _ _ l.kept in
    let n = length_swap ds c.in-Ok.place c.new-fresh.result e.0 in omega (arith, m, n, e.0)

pub into_value-requires : goal.into_value-requires
into_value-requires g c =
    let ds = c.args.devices.now.here.items in
    let l = subst (λ (xs : List (Device _ _ _)). Lends 0 xs c.publish.new.devices.here.items) c.put_at-old.ensures.here c.in-Err-publish.ensures.puts.0 in
    (swapped_is ds c.publish.new.devices.here.items c.in-Ok.place c.new-fresh.result c.put_at-fresh.result c.in-Ok.ensures.0 l c.put_at-fresh.ensures.old).1 ∙ c.new-fresh.ensures.3

pub returns-in-Ok-publish-clause-exchanges : goal.returns-in-Ok-publish-clause-exchanges
returns-in-Ok-publish-clause-exchanges g c =
    let e = c.in-Ok.ensures in
    let ds = c.args.devices.now.here.items in
    let n = c.new-fresh.ensures in
    let d = c.put_at-old.result in
    let r = c.put_at-old.ensures.old in
    let items = c.put_at-old.ensures.here in
    let p = c.in-Ok-publish.ensures.puts in
    let few = c.if-number-ge-MOST.false in
    let leaving = c.publish.ensures.leaving ∙ c.put_at-old.ensures.leaving in
    let room = subst (λ (v : _). vec_len v < vec_capacity v) (sym leaving) (omega (arith, c.in-Ok-reserve.ensures.ok)) in (
      omega (arith, few),
      record {
        place = c.in-Ok.place;
        inside = e.0;
        device = d;
        is = λ x. get_or_read ds c.in-Ok.place d e.0 r x;
        has = subst (λ (x : Device _ _ _). g.K.Ord.cmp x.key c.args.key ≡ Equal) (sym r) (e.1 d);
        fresh = c.new-fresh.result;
        key_is = n.0 ∙ ap (λ z. z.key) (get_or_read ds c.in-Ok.place c.index-at.result.now e.0 c.index-at.ensures d ∙ sym r);
        number_is = n.1;
        value_is = n.2 ∙ c.in-Ok-new.ensures.ok;
        home = n.3;
        lends = subst (λ (xs : List (Device _ _ _)). Lends 1 xs c.publish.new.devices.here.items) items p.0;
        leaves = pushed c.publish.new.devices.leaving.items c.push.new.self.items d c.push.result c.push.ensures.items (c.push.ensures.succeeds room) ∙ ap (λ l. l ++ d ∷ []) (ap (λ v. v.items) leaving ∙ c.reserve.ensures.items);
        shown = p.1.0;
        cookie = p.1.1;
        parts = subst (λ (xs : List (Device _ _ _)). AreParts p.1.0.value xs) items p.1.2;
        puts = p.1.3;
      },
    )

pub returns-in-Err-publish-clause-exchanges : goal.returns-in-Err-publish-clause-exchanges
returns-in-Err-publish-clause-exchanges g c =
    let e = c.in-Ok.ensures in
    let ds = c.args.devices.now.here.items in
    let ys = c.publish.new.devices.here.items in
    let n = c.new-fresh.ensures in
    let r = c.put_at-old.ensures.old in
    let p = c.in-Err-publish.ensures.puts in
    let l = subst (λ (xs : List (Device _ _ _)). Lends 0 xs ys) c.put_at-old.ensures.here p.0 in
    let is = swapped_is ds ys c.in-Ok.place c.new-fresh.result c.put_at-fresh.result e.0 l c.put_at-fresh.ensures.old in (
      c.into_value.ensures ∙ (ap (λ z. z.2.deed.value) is.0 ∙ (n.2 ∙ c.in-Ok-new.ensures.ok)),
      subst (λ (xs : List (Device _ _ _)). Lends 0 ds xs) (sym c.put_at-fresh.ensures.here) (swap_back ds ys c.in-Ok.place c.put_at-old.result c.new-fresh.result e.0 r l),
      ap (λ v. v.items) (c.put_at-fresh.ensures.leaving ∙ (c.publish.ensures.leaving ∙ c.put_at-old.ensures.leaving)) ∙ c.reserve.ensures.items,
      p.1,
      p.2,
    )

pub returns-in_default-clause-refused : goal.returns-in_default-clause-refused
returns-in_default-clause-refused g c = let e = c.in_default.ensures in untaken g.K.Ord.cmp c.args.key g.met.K.Ord.total c.args.devices.now.here.items c.in_default.field-0 e.1 e.2

pub returns-then-number-ge-MOST-clause-refused : goal.returns-then-number-ge-MOST-clause-refused
returns-then-number-ge-MOST-clause-refused g c =
    let e = c.in-Ok.ensures in
    let many = c.if-number-ge-MOST.true in (taken g.K.Ord.cmp c.args.key c.args.devices.now.here.items c.in-Ok.place e.0 e.1, inl (omega (arith, many, c.requires.number)))

pub returns-in_default-reserve-clause-refused : goal.returns-in_default-reserve-clause-refused
returns-in_default-reserve-clause-refused g c = let e = c.in-Ok.ensures in taken g.K.Ord.cmp c.args.key c.args.devices.now.here.items c.in-Ok.place e.0 e.1

pub returns-in-Err-clause-refused : goal.returns-in-Err-clause-refused
returns-in-Err-clause-refused g c = let e = c.in-Ok.ensures in taken g.K.Ord.cmp c.args.key c.args.devices.now.here.items c.in-Ok.place e.0 e.1

pub returns-in-Err-publish-clause-refused : goal.returns-in-Err-publish-clause-refused
returns-in-Err-publish-clause-refused g c =
    let e = c.in-Ok.ensures in
    rw c.replacing.ensures (refused_over g.K.Ord.cmp c.args.key c.in-Err-publish.refusal (names_of c.args.devices.now.here.items) c.publish.new.writer c.in-Err-publish.ensures.refused (taken g.K.Ord.cmp c.args.key c.args.devices.now.here.items c.in-Ok.place e.0 e.1))
