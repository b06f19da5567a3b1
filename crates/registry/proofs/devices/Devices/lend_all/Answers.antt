-- One device more has lent a part.
use Rattle.std.proofs.Common.{◌+◌, ◌<◌, length, ap, ◌∙◌, arith}
use Rattle.std.proofs.lemmas.List.{length-set, length_push}
use Rattle.registry.proofs.Parts.{kept_set, lent_more, rest_more, parts_more, pushed}
use Rattle.registry.proofs.devices.Devices.lend_all.Goals as goal

pub loop-place-preserved : goal.loop-place-preserved
loop-place-preserved g c =
    let v = c.loop-place.invariant in
    let s = c.loop-place.self.here.items in
    let test = c.loop-place-test.true in
    let i = c.loop-place.place in
    let d = c.index_mut-device.result.now in
    let e = c.lend.new.self in
    let l : i < length s = omega (arith, test, v.long, v.count) in
    let r = c.index_mut-device.ensures.value in
    let p = pushed c.loop-place.entries.items c.push.new.self.items c.lend.result c.push.result c.push.ensures.items (c.push.ensures.succeeds (omega (arith, test, v.many, v.room))) in
    let long = length-set s i e in record {
      leaving = v.leaving;
      capacity = v.capacity;
      kept = kept_set s i d e l r c.lend.ensures.rest.0 ∙ v.kept;
      long = long ∙ v.long;
      count = v.count;
      lent = lent_more s _ i d e l r c.lend.ensures.rest.1 v.lent v.rest;
      rest = rest_more s _ i e v.rest;
      many = ap length p ∙ (length_push c.loop-place.entries.items c.lend.result ∙ ap (λ n. n + 1) v.many);
      room = omega (arith, v.room, c.push.ensures.capacity);
      parts = λ k x y lt. rw p (parts_more c.loop-place.entries.items s c.args.self.now.here.items i c.lend.result d v.many l r c.lend.ensures.part v.rest v.parts k x y lt);
    }

pub returns-clause-lends : goal.returns-clause-lends
returns-clause-lends g c =
    let v = c.loop-place.invariant in
    let test = c.loop-place-test.false in (
      record { kept = v.kept; out = λ k d lt. v.lent k d (omega (arith, v.count, test, lt)) },
      record { many = omega (arith, v.many, v.count, test, c.loop-place.auto); each = λ k e d lt. v.parts k e d (omega (arith, v.many, lt)) },
    )
