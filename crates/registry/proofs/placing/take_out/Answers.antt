-- The device was taken out, and the others shown; or put back.
use Rattle.std.proofs.Common.{◌≡◌, ◌^◌, ◌<◌, List, [], ◌∷◌, ◌++◌, All, inl, sym, ap, ◌∙◌, subst, arith, rules, vec_len}
use Rattle.std.specs.List.{insert}
use Rattle.std.specs.Vec.{vec_capacity}
use Rattle.std.specs.declared.cmp.Ordering.TheVariants.{Equal}
use Rattle.std.proofs.lemmas.List.{get_or_read}
use Rattle.registry.specs.declared.device.Device.{Device}
use Rattle.registry.specs.Order.{AreInOrder}
use Rattle.registry.specs.Names.{Lends, names_of}
use Rattle.registry.specs.Registry.{AreParts, keys_of}
use Rattle.registry.proofs.Parts.{chosen, kept_length, pushed}
use Rattle.registry.proofs.Keeping.{All-remove}
use Rattle.registry.proofs.Inserting.{order_remove, put_back}
use Rattle.registry.proofs.Refused.{refused_out, taken, untaken}
use Rattle.registry.proofs.placing.take_out.Goals as goal

pub publish-requires : goal.publish-requires
publish-requires g c =
    let e = c.in-Ok.ensures in
    let ds = c.args.devices.now.here.items in
    let items = c.remove-device.ensures.items in (
      search rules,
      (
        c.requires.domain,
        (
          c.requires.cell,
          (
            subst (λ (xs : List (Device _ _ _)). AreInOrder g.K.Ord.cmp (keys_of xs)) (sym items) (order_remove g.K.Ord.cmp ds c.in-Ok.place e.0 c.requires.ordered),
            subst (λ (xs : List (Device _ _ _)). All (λ d. d.out < 2 ^ 62) xs) (sym items) (All-remove (λ (d : Device _ _ _). d.out < 2 ^ 62) ds c.in-Ok.place c.remove-device.result e.0 c.remove-device.ensures.value (λ k x l. let m = c.requires.room k x l in omega (arith, m))),
          ),
        ),
      ),
    )

pub insert-requires : goal.insert-requires
insert-requires g c =
    let e = c.in-Ok.ensures in
    let m = kept_length _ _ c.in-Err.ensures.puts.0.kept in
    let n = c.remove-device.ensures.len in omega (arith, m, n, e.0)

pub unwrap-requires-in-Err : goal.unwrap-requires-in-Err
unwrap-requires-in-Err g c =
    let m = kept_length _ _ c.in-Err.ensures.puts.0.kept in
    let a = c.args.devices.now.here.ok in
    let b = c.args.devices.now.here.small in
    let n = c.remove-device.ensures.len in
    let cap = c.remove-device.ensures.capacity in
    let caps = c.publish.ensures.capacity in
    c.insert.ensures.succeeds (omega (arith, m, n, cap, caps, a, b))

pub returns-in-Ok-publish-clause-takes : goal.returns-in-Ok-publish-clause-takes
returns-in-Ok-publish-clause-takes g c =
    let e = c.in-Ok.ensures in
    let ds = c.args.devices.now.here.items in
    let d = c.remove-device.result in
    let r = c.remove-device.ensures.value in
    let items = c.remove-device.ensures.items in
    let p = c.in-Ok-publish.ensures.puts in
    let few = c.if-number-ge-MOST.false in
    let leaving = c.publish.ensures.leaving in
    let room = subst (λ (v : _). vec_len v < vec_capacity v) (sym leaving) (omega (arith, c.in-Ok-reserve.ensures.ok)) in (
      omega (arith, few),
      record {
        place = c.in-Ok.place;
        inside = e.0;
        device = d;
        is = λ x. get_or_read ds c.in-Ok.place d e.0 r x;
        has = subst (λ (x : Device _ _ _). g.K.Ord.cmp x.key c.args.key ≡ Equal) (sym r) (e.1 d);
        lends = subst (λ (xs : List (Device _ _ _)). Lends 1 xs c.publish.new.devices.here.items) items p.0;
        leaves = pushed c.publish.new.devices.leaving.items c.push.new.self.items d c.push.result c.push.ensures.items (c.push.ensures.succeeds room) ∙ ap (λ l. l ++ d ∷ []) (ap (λ v. v.items) leaving ∙ c.reserve.ensures.items);
        shown = p.1.0;
        cookie = p.1.1;
        parts = subst (λ (xs : List (Device _ _ _)). AreParts p.1.0.value xs) items p.1.2;
        puts = p.1.3;
      },
    )

pub returns-in-Err-clause-takes : goal.returns-in-Err-clause-takes
returns-in-Err-clause-takes g c =
    let e = c.in-Ok.ensures in
    let ds = c.args.devices.now.here.items in
    let d = c.remove-device.result in
    let p = c.in-Err.ensures.puts in
    let m = kept_length _ _ p.0.kept in
    let a = c.args.devices.now.here.ok in
    let b = c.args.devices.now.here.small in
    let n = c.remove-device.ensures.len in
    let cap = c.remove-device.ensures.capacity in
    let caps = c.publish.ensures.capacity in
    let l = subst (λ (xs : List (Device _ _ _)). Lends 0 xs c.publish.new.devices.here.items) c.remove-device.ensures.items p.0 in
    let there = chosen (insert c.publish.new.devices.here.items c.in-Ok.place d) c.publish.new.devices.here.items c.insert.new.self.items c.insert.result c.insert.ensures.items (c.insert.ensures.succeeds (omega (arith, m, n, cap, caps, a, b))) in
    (subst (λ (xs : List (Device _ _ _)). Lends 0 ds xs) (sym there) (put_back ds c.publish.new.devices.here.items c.in-Ok.place d e.0 c.remove-device.ensures.value l), ap (λ v. v.items) c.publish.ensures.leaving ∙ c.reserve.ensures.items, p.1, p.2)

pub returns-in_default-clause-refused : goal.returns-in_default-clause-refused
returns-in_default-clause-refused g c = let e = c.in_default.ensures in untaken g.K.Ord.cmp c.args.key g.met.K.Ord.total c.args.devices.now.here.items c.in_default.field-0 e.1 e.2

pub returns-then-number-ge-MOST-clause-refused : goal.returns-then-number-ge-MOST-clause-refused
returns-then-number-ge-MOST-clause-refused g c =
    let e = c.in-Ok.ensures in
    let many = c.if-number-ge-MOST.true in (taken g.K.Ord.cmp c.args.key c.args.devices.now.here.items c.in-Ok.place e.0 e.1, inl (omega (arith, many, c.requires.number)))

pub returns-in_default-reserve-clause-refused : goal.returns-in_default-reserve-clause-refused
returns-in_default-reserve-clause-refused g c = let e = c.in-Ok.ensures in taken g.K.Ord.cmp c.args.key c.args.devices.now.here.items c.in-Ok.place e.0 e.1

pub returns-in-Err-clause-refused : goal.returns-in-Err-clause-refused
returns-in-Err-clause-refused g c =
    let e = c.in-Ok.ensures in
    rw c.removing.ensures (refused_out g.K.Ord.cmp c.args.key c.in-Err.refusal (names_of c.args.devices.now.here.items) c.publish.new.writer c.in-Err.ensures.refused (taken g.K.Ord.cmp c.args.key c.args.devices.now.here.items c.in-Ok.place e.0 e.1))
