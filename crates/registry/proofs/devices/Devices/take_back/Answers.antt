-- One device more has its part back.
use Rattle.std.proofs.Common.{◌<◌, length, get_or, sym, ap, ◌∙◌, arith}
use Rattle.std.proofs.lemmas.List.{length-set, length_push, get_or_append_left}
use Rattle.registry.specs.declared.index.Entry.{Entry}
use Rattle.registry.proofs.Parts.{kept_set, rest_fewer, back_more}
use Rattle.registry.proofs.devices.Devices.take_back.Goals as goal

pub loop-entry-preserved : goal.loop-entry-preserved
loop-entry-preserved g c =
    let v = c.loop-entry.invariant in
    let s = c.loop-entry.self.here.items in
    let init = c.args.self.now.here.items in
    let n = c.len.result in
    let d = c.index_mut-device.result.now in
    let e = c.take_home.new.self in
    let items = c.in-Some.ensures.items in
    let long = ap length items ∙ length_push c.pop.new.self.items c.in-Some.entry in
    let is = c.len.ensures in
    let l : n < length s = omega (arith, long, is, v.few, v.long) in
    let r = c.index_mut-device.ensures.value in
    let keeps = length-set s n e in record {
      leaving = v.leaving;
      capacity = v.capacity;
      kept = kept_set s n d e l r c.take_home.ensures.0 ∙ v.kept;
      long = keeps ∙ v.long;
      few = omega (arith, long, v.few);
      parts = λ k x y lt. ap (λ (z : Entry _ _). z.part.round) (sym (get_or_append_left c.pop.new.self.items _ x k lt) ∙ ap (λ xs. get_or xs k x) (sym items)) ∙ v.parts k x y (omega (arith, long, lt));
      rest = λ k x lt. rest_fewer s init n e (λ j y m. v.rest j y (omega (arith, long, is, m))) k x (omega (arith, is, lt));
      back = λ k x le lt. back_more s init n d e l r c.take_home.ensures.1 (λ j y m. v.rest j y (omega (arith, long, is, m))) (λ j y m o. v.back j y (omega (arith, long, is, m)) o) k x (omega (arith, is, le)) lt;
    }
