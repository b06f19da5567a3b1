use Rattle.std.proofs.Common.{◌≡◌, ℕ, ◌≤◌, List, [], ◌∷◌, ◌++◌, length, refl, ap, sym, ◌∙◌, subst, arith}
use Rattle.std.proofs.lemmas.List.{length-append}
use Rattle.calls.specs.Glossary.{Act, finished_in, CallSeatView, TicketView, Loads, finished_loads, number_for, IsDone}
use Rattle.calls.specs.declared.view.Act.TheVariants.{LoadFinished}
use Rattle.calls.specs.Calls.{Does}
use Rattle.calls.proofs.Loading.{no_loads, one_more_load, goes_on, finished_found, finished_not_above, finished_loads_push, each_push, all_reached, ticket_whole, number_read, reached_push}
use Rattle.calls.proofs.calls.Calls.barrier_poll.Goals as goal

pub loop-processor-init : goal.loop-processor-init
loop-processor-init g c = record {
  found = [];
  loads = no_loads c.args.seat.now c.processors-processors.ensures.loads;
  count = refl;
  each = λ p lt. absurd (omega (arith, lt));
  reached = λ p lt. absurd (omega (arith, lt));
}

pub load_finished-requires : goal.load_finished-requires
load_finished-requires g c =
    let same = c.loop-processor.invariant.loads.same.1 in
    let count = c.processors-processors.ensures.count in
    let lt = c.loop-processor-test.true in
    omega (arith, same, count, lt)

pub index-requires : goal.index-requires
index-requires g c =
    let lt = c.loop-processor-test.true in
    let count = c.processors-processors.ensures.count in
    let whole = ticket_whole c.args.ticket.now c.args.seat.now c.ticket.inside.note.tallies c.ticket.inside.numbers.items (sym c.ticket.view_is) c.ticket.invariant.whole c.processors-processors.ensures.wide (c.requires.1 ∙ sym c.requires.0) in
    let long = ap (λ (t : TicketView). length t.numbers) c.ticket.view_is in
    omega (arith, lt, count, whole, long)

pub returns-then-load_finished-index-clause-polls : goal.returns-then-load_finished-index-clause-polls
returns-then-load_finished-index-clause-polls g c =
    let v = c.loop-processor.invariant in
    let i : ℕ = c.loop-processor.processor in
    let n : ℕ = c.load_finished.result in
    let s : CallSeatView _ = c.args.seat.now in
    let m : CallSeatView _ = c.loop-processor.seat in
    let t : CallSeatView _ = c.load_finished.new.self in
    let d : Does (LoadFinished i n) m t = c.load_finished.ensures.does in
    let ns : List ℕ = v.found in
    let lt = c.loop-processor-test.true in
    let many = c.processors-processors.ensures.count in
    let whole = ticket_whole c.args.ticket.now c.args.seat.now c.ticket.inside.note.tallies c.ticket.inside.numbers.items (sym c.ticket.view_is) c.ticket.invariant.whole c.processors-processors.ensures.wide (c.requires.1 ∙ sym c.requires.0) in
    let long = ap (λ (t : TicketView). length t.numbers) c.ticket.view_is in
    let read : c.index.result.now ≡ number_for i c.args.ticket.now = number_read _ _ i c.index.result.now c.ticket.view_is (omega (arith, lt, many, whole, long)) c.index.ensures in
    let number : c.index.result.now ≡ number_for (length ns) c.args.ticket.now = read ∙ ap (λ (p : ℕ). number_for p c.args.ticket.now) (sym v.count) in
    let below = c.if-load_finished-index.true in record {
      found = ns ++ n ∷ [];
      loads = subst (λ (acts : List (Act _)). Loads acts s t) (sym (finished_loads_push i ns n v.count)) (one_more_load (finished_loads 0 ns) (LoadFinished i n) s m t v.loads d);
      answer = (ns, n, refl, omega (arith, number, below), λ p lt. v.each p (let count = v.count in omega (arith, lt, count)));
    }

pub returns-then-load_finished-index-clause-done : goal.returns-then-load_finished-index-clause-done
returns-then-load_finished-index-clause-done g c =
    let v = c.loop-processor.invariant in
    let i : ℕ = c.loop-processor.processor in
    let n : ℕ = c.load_finished.result in
    let s : CallSeatView _ = c.args.seat.now in
    let m : CallSeatView _ = c.loop-processor.seat in
    let t : CallSeatView _ = c.load_finished.new.self in
    let d : Does (LoadFinished i n) m t = c.load_finished.ensures.does in
    let lt = c.loop-processor-test.true in
    let many = c.processors-processors.ensures.count in
    let whole = ticket_whole c.args.ticket.now c.args.seat.now c.ticket.inside.note.tallies c.ticket.inside.numbers.items (sym c.ticket.view_is) c.ticket.invariant.whole c.processors-processors.ensures.wide (c.requires.1 ∙ sym c.requires.0) in
    let long = ap (λ (t : TicketView). length t.numbers) c.ticket.view_is in
    let number : c.index.result.now ≡ number_for i c.args.ticket.now = number_read _ _ i c.index.result.now c.ticket.view_is (omega (arith, lt, many, whole, long)) c.index.ensures in
    let below = c.if-load_finished-index.true in record {
      processor = i;
      found = n;
      counted = finished_found i n s.seen m t v.loads.since d;
      below = omega (arith, number, below);
    }

pub loop-processor-preserved : goal.loop-processor-preserved
loop-processor-preserved g c =
    let v = c.loop-processor.invariant in
    let i : ℕ = c.loop-processor.processor in
    let n : ℕ = c.load_finished.result in
    let s : CallSeatView _ = c.args.seat.now in
    let m : CallSeatView _ = c.loop-processor.seat in
    let t : CallSeatView _ = c.load_finished.new.self in
    let d : Does (LoadFinished i n) m t = c.load_finished.ensures.does in
    let ns : List ℕ = v.found in
    let lt = c.loop-processor-test.true in
    let many = c.processors-processors.ensures.count in
    let whole = ticket_whole c.args.ticket.now c.args.seat.now c.ticket.inside.note.tallies c.ticket.inside.numbers.items (sym c.ticket.view_is) c.ticket.invariant.whole c.processors-processors.ensures.wide (c.requires.1 ∙ sym c.requires.0) in
    let long = ap (λ (t : TicketView). length t.numbers) c.ticket.view_is in
    let number : c.index.result.now ≡ number_for i c.args.ticket.now = number_read _ _ i c.index.result.now c.ticket.view_is (omega (arith, lt, many, whole, long)) c.index.ensures in
    let not_below = c.if-load_finished-index.false in
    let one = length-append ns (n ∷ []) in
    let count = v.count in
    let reached : number_for i c.args.ticket.now ≤ n = omega (arith, number, not_below) in
    let above = finished_not_above i n (finished_found i n s.seen m t v.loads.since d) in record {
      found = ns ++ n ∷ [];
      loads = subst (λ (acts : List (Act _)). Loads acts s t) (sym (finished_loads_push i ns n count)) (one_more_load (finished_loads 0 ns) (LoadFinished i n) s m t v.loads d);
      count = omega (arith, one, count);
      each = each_push (λ p k. number_for p c.args.ticket.now ≤ k) i ns n count v.each reached;
      reached = reached_push (λ p. number_for p c.args.ticket.now) i m.seen t.seen (goes_on _ m t d) v.reached (omega (arith, reached, above));
    }

pub returns-clause-polls : goal.returns-clause-polls
returns-clause-polls g c =
    let v = c.loop-processor.invariant in
    let le = c.loop-processor.auto.processor-end in
    let ge = c.loop-processor-test.false in
    let count = v.count in
    let many = c.processors-processors.ensures.count in record {
      found = v.found;
      loads = v.loads;
      answer = (omega (arith, le, ge, count, many), λ p lt. v.each p (omega (arith, lt, count)));
    }

pub returns-clause-done : goal.returns-clause-done
returns-clause-done g c =
    let v = c.loop-processor.invariant in
    let ge = c.loop-processor-test.false in
    let count = c.processors-processors.ensures.count in
    let whole = ticket_whole c.args.ticket.now c.args.seat.now c.ticket.inside.note.tallies c.ticket.inside.numbers.items (sym c.ticket.view_is) c.ticket.invariant.whole c.processors-processors.ensures.wide (c.requires.1 ∙ sym c.requires.0) in
    all_reached c.args.ticket.now.numbers (λ p. finished_in p c.loop-processor.seat.seen) (λ p lt. v.reached p (omega (arith, ge, count, whole, lt)))

pub returns-clause-finished : goal.returns-clause-finished
returns-clause-finished g c _ r covered =
    let v = c.loop-processor.invariant in
    let ge = c.loop-processor-test.false in
    let count = c.processors-processors.ensures.count in
    let whole = ticket_whole c.args.ticket.now c.args.seat.now c.ticket.inside.note.tallies c.ticket.inside.numbers.items (sym c.ticket.view_is) c.ticket.invariant.whole c.processors-processors.ensures.wide (c.requires.1 ∙ sym c.requires.0) in
    let done : IsDone c.args.ticket.now c.loop-processor.seat.seen = all_reached c.args.ticket.now.numbers (λ p. finished_in p c.loop-processor.seat.seen) (λ p lt. v.reached p (omega (arith, ge, count, whole, lt))) in
    let more = done r.processor in
    omega (arith, more, covered)
