use Rattle.std.proofs.Common.{ℕ, ◌+◌, ◌<◌, List, [], ◌∷◌, length, get_or, ap, sym, ◌∙◌, subst, arith}
use Rattle.std.proofs.lemmas.List.{length-append}
use Rattle.atomic_table.specs.Seated.{TableId}
use Rattle.calls.specs.Glossary.{Act, queued_in, CallSeatView, NoteView, CallsView, IsCountBetween, Loads, queued_loads}
use Rattle.calls.specs.declared.view.Act.TheVariants.{LoadQueued}
use Rattle.calls.specs.Calls.{Does}
use Rattle.calls.proofs.Loading.{no_loads, one_more_load, later_count, goes_on, queued_found, queued_not_below, queued_loads_push, each_push, same_many}
use Rattle.calls.proofs.calls.Calls.barrier_start.Goals as goal

pub loop-processor-init : goal.loop-processor-init
loop-processor-init g c =
    let h = c.in_ok-numbers.ensures in
    let s : CallSeatView _ = c.args.seat.now in record {
      loads = subst (λ (ns : List ℕ). Loads (queued_loads 0 ns) s s) (sym h.items) (no_loads s c.processors-processors.ensures.loads);
      count = ap length h.items;
      len = h.len;
      room = h.exact;
      each = λ p lt. absurd (omega (arith, lt));
    }

pub load_queued-requires : goal.load_queued-requires
load_queued-requires g c =
    let v = c.loop-processor.invariant in
    let same = v.loads.same.1 in
    let count = c.processors-processors.ensures.count in
    let lt = c.loop-processor-test.true in
    omega (arith, same, count, lt)

pub push_reserved-requires : goal.push_reserved-requires
push_reserved-requires g c =
    let v = c.loop-processor.invariant in
    let len = v.len in
    let room = v.room in
    let lt = c.loop-processor-test.true in
    omega (arith, len, room, lt)

pub loop-processor-preserved : goal.loop-processor-preserved
loop-processor-preserved g c =
    let v = c.loop-processor.invariant in
    let i : ℕ = c.loop-processor.processor in
    let n : ℕ = c.load_queued.result in
    let s : CallSeatView _ = c.args.seat.now in
    let m : CallSeatView _ = c.loop-processor.seat in
    let t : CallSeatView _ = c.load_queued.new.self in
    let d : Does (LoadQueued i n) m t = c.load_queued.ensures.does in
    let ns : List ℕ = c.loop-processor.numbers.items in
    let pushed = c.push_reserved.ensures.items in
    let one = length-append ns (n ∷ []) in
    let long = ap length pushed in
    let count = v.count in
    let len = v.len in
    let more = c.push_reserved.ensures.len in
    let cap = c.push_reserved.ensures.capacity in
    let room = v.room in record {
      loads = subst (λ (acts : List (Act _)). Loads acts s t) (sym (ap (queued_loads 0) pushed ∙ queued_loads_push i ns n count)) (one_more_load (queued_loads 0 ns) (LoadQueued i n) s m t v.loads d);
      count = omega (arith, long, one, count);
      len = omega (arith, len, more);
      room = cap ∙ room;
      each = subst (λ (xs : List ℕ). (p : ℕ) → p < i + 1 → IsCountBetween (queued_in p) (get_or xs p 0) s.seen t.seen) (sym pushed)
          (each_push (λ p k. IsCountBetween (queued_in p) k s.seen t.seen) i ns n count (λ p lt. later_count _ _ (v.each p lt) (goes_on _ m t d)) (queued_found i n s.seen m t v.loads.since d));
    }

pub invariant_of-result : goal.invariant_of-result
invariant_of-result g c =
    let v = c.loop-processor.invariant in
    let le = c.loop-processor.auto.processor-end in
    let ge = c.loop-processor-test.false in
    let count = v.count in
    let many = c.processors-processors.ensures.count in
    let wide = c.processors-processors.ensures.wide in
    let same = ap (λ (t : TableId). t.words) (ap (λ (n : NoteView _). n.tallies) c.note.ensures.note ∙ v.loads.same.0) in
    record { whole = omega (arith, le, ge, count, many, wide, same) }

pub returns-clause-starts : goal.returns-clause-starts
returns-clause-starts g c =
    let v = c.loop-processor.invariant in
    let le = c.loop-processor.auto.processor-end in
    let ge = c.loop-processor-test.false in
    let count = v.count in
    let many = c.processors-processors.ensures.count in
    let s : CallSeatView _ = c.args.seat.now in
    let ns : List ℕ = c.loop-processor.numbers.items in
    let each : (p : ℕ) → p < s.processors → IsCountBetween (queued_in p) (get_or ns p 0) s.seen c.loop-processor.seat.seen = λ p lt. v.each p (omega (arith, le, ge, count, many, lt)) in
    rw (c.note.ensures.same) (record {
      tallies = ap (λ (n : NoteView _). n.tallies) c.note.ensures.note ∙ v.loads.same.0;
      whole = omega (arith, le, ge, count, many);
      loads = v.loads;
      each = each;
      not_below = λ p lt. queued_not_below p (get_or ns p 0) (each p lt);
    })

pub returns-clause-covers : goal.returns-clause-covers
returns-clause-covers g c r below queued =
    let v = c.loop-processor.invariant in
    let le = c.loop-processor.auto.processor-end in
    let ge = c.loop-processor-test.false in
    let count = v.count in
    let many = c.processors-processors.ensures.count in
    let tallies = c.requires ∙ ap (λ (k : CallsView). k.tallies) (sym c.self.view_is) in
    let same = same_many _ _ _ _ c.processors-processors.ensures.wide c.self.invariant.wide tallies in
    let all = ap (λ (k : CallsView). k.processors) c.self.view_is in
    let more = queued_not_below r.processor (get_or c.loop-processor.numbers.items r.processor 0) (v.each r.processor (omega (arith, le, ge, count, many, same, all, below))) in
    omega (arith, more, queued)

pub returns-clause-there : goal.returns-clause-there
returns-clause-there g c =
    let tallies = c.requires ∙ ap (λ (k : CallsView). k.tallies) (sym c.self.view_is) in
    let many = same_many _ _ _ _ c.processors-processors.ensures.wide c.self.invariant.wide tallies in
    let count = ap (λ (k : CallsView). k.processors) c.self.view_is in
    (c.processors-processors.ensures.there, omega (arith, many, count))
