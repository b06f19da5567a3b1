use Rattle.std.proofs.Common.{ℕ, ◌≤◌, List, [], ◌∷◌, ◌++◌, refl, sym, subst, arith}
use Rattle.std.proofs.lemmas.List.{length-append}
use Rattle.std.proofs.lemmas.List.Sums.{sum_by-append}
use Rattle.calls.specs.Glossary.{Act, most_calls, queued_in, CallSeatView, IsCountBetween, Loads, queued_loads}
use Rattle.calls.specs.declared.view.Act.TheVariants.{LoadQueued}
use Rattle.calls.specs.Calls.{Does}
use Rattle.calls.proofs.Loading.{no_loads, one_more_load, later_count, goes_on, queued_found, queued_loads_push, each_push}
use Rattle.calls.proofs.seat.CallSeat.total_queued.Goals as goal

pub loop-processor-init : goal.loop-processor-init
loop-processor-init g c = record {
  found = [];
  loads = no_loads _ c.processors-processors.ensures.loads;
  count = refl;
  each = λ p lt. absurd (omega (arith, lt));
  few = λ p lt. absurd (omega (arith, lt));
  total_is = refl;
  small = omega arith;
}

pub loop-processor-preserved : goal.loop-processor-preserved
loop-processor-preserved g c =
    let v = c.loop-processor.invariant in
    let i : ℕ = c.loop-processor.processor in
    let n : ℕ = c.load_queued.result in
    let s : CallSeatView _ = c.args.self.now in
    let m : CallSeatView _ = c.loop-processor.self in
    let t : CallSeatView _ = c.load_queued.new.self in
    let d : Does (LoadQueued i n) m t = c.load_queued.ensures.does in
    let ns : List ℕ = v.found in
    let count = v.count in
    let one = length-append ns (n ∷ []) in
    let more = sum_by-append (λ x. x) ns (n ∷ []) in
    let same = c.from-total.ensures in
    let was = v.total_is in
    let small = v.small in
    let word = c.load_queued.type_inv in record {
      found = ns ++ n ∷ [];
      loads = subst (λ (acts : List (Act _)). Loads acts s t) (sym (queued_loads_push i ns n count)) (one_more_load (queued_loads 0 ns) (LoadQueued i n) s m t v.loads d);
      count = omega (arith, one, count);
      each = each_push (λ p k. IsCountBetween (queued_in p) k s.seen t.seen) i ns n count (λ p lt. later_count _ _ (v.each p lt) (goes_on _ m t d)) (queued_found i n s.seen m t v.loads.since d);
      few = each_push (λ p k. k ≤ most_calls) i ns n count v.few c.load_queued.ensures.few;
      total_is = omega (arith, more, same, was);
      small = omega (arith, same, small, word);
    }
