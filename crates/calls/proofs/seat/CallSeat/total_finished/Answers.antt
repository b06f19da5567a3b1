use Rattle.std.proofs.Common.{ℕ, ◌≤◌, List, [], ◌∷◌, ◌++◌, refl, sym, subst, arith}
use Rattle.std.proofs.lemmas.List.{length-append}
use Rattle.std.proofs.lemmas.List.Sums.{sum_by-append}
use Rattle.calls.specs.Glossary.{Act, queued_in, finished_in, AreTakers, CallSeatView, IsCountBetween, Loads, finished_loads}
use Rattle.calls.specs.declared.view.Act.TheVariants.{LoadFinished}
use Rattle.calls.specs.Calls.{Does}
use Rattle.calls.proofs.Loading.{queued_later, no_loads, one_more_load, later_count, goes_on, finished_found, finished_loads_push, each_push}
use Rattle.calls.proofs.seat.CallSeat.total_finished.Goals as goal

pub loop-processor-init : goal.loop-processor-init
loop-processor-init g c = record {
  found = [];
  loads = no_loads _ c.processors-processors.ensures.loads;
  count = refl;
  each = λ p lt. absurd (omega (arith, lt));
  within = λ p lt. absurd (omega (arith, lt));
  takers = λ lt. absurd (omega (arith, lt));
  total_is = refl;
  small = omega arith;
}

pub loop-processor-preserved : goal.loop-processor-preserved
loop-processor-preserved g c =
    let v = c.loop-processor.invariant in
    let i : ℕ = c.loop-processor.processor in
    let n : ℕ = c.load_finished.result in
    let s : CallSeatView _ = c.args.self.now in
    let m : CallSeatView _ = c.loop-processor.self in
    let t : CallSeatView _ = c.load_finished.new.self in
    let d : Does (LoadFinished i n) m t = c.load_finished.ensures.does in
    let ns : List ℕ = v.found in
    let count = v.count in
    let one = length-append ns (n ∷ []) in
    let more = sum_by-append (λ x. x) ns (n ∷ []) in
    let same = c.from-total.ensures in
    let was = v.total_is in
    let small = v.small in
    let word = c.load_finished.type_inv in record {
      found = ns ++ n ∷ [];
      loads = subst (λ (acts : List (Act _)). Loads acts s t) (sym (finished_loads_push i ns n count)) (one_more_load (finished_loads 0 ns) (LoadFinished i n) s m t v.loads d);
      count = omega (arith, one, count);
      each = each_push (λ p k. IsCountBetween (finished_in p) k s.seen t.seen) i ns n count (λ p lt. later_count _ _ (v.each p lt) (goes_on _ m t d)) (finished_found i n s.seen m t v.loads.since d);
      within = each_push (λ p k. k ≤ queued_in p t.seen) i ns n count (λ p lt. let low = v.within p lt in let more = queued_later p (goes_on _ m t d) in omega (arith, low, more)) c.load_finished.ensures.within;
      takers = λ _. subst (λ (k : ℕ). AreTakers k t.seen) v.loads.same.1 c.load_finished.ensures.takers;
      total_is = omega (arith, more, same, was);
      small = omega (arith, same, small, word);
    }
