-- What one reader counted is within what all of them did.
use Rattle.std.proofs.Common.{ap, arith}
use Rattle.race.proofs.Words.{sum_by-cons, into_iter_items, Reader, opened_by, closed_by}
use Rattle.race.proofs.Finishing.{few_opened, few_closed}
use Rattle.race.proofs.ending.take_apart.Goals as goal

pub overflow_add-sums : goal.overflow_add-sums
overflow_add-sums c =
    let whole = c.loop-reader.invariant.opened in
    let next = ap opened_by c.in-Some.ensures.steps.0 in
    let cut = sum_by-cons (λ (r : Reader). r.opened) c.in-Some.reader (into_iter_items c.next.new.self) in
    let few = few_opened c.args.course.now c.args.readers.items c.requires.course c.requires.each c.requires.few in
    omega (arith, whole, next, cut, few)

pub overflow_add-sums-in-loop-reader : goal.overflow_add-sums-in-loop-reader
overflow_add-sums-in-loop-reader c =
    let whole = c.loop-reader.invariant.closed in
    let next = ap closed_by c.in-Some.ensures.steps.0 in
    let cut = sum_by-cons (λ (r : Reader). r.closed) c.in-Some.reader (into_iter_items c.next.new.self) in
    let few = few_closed c.args.course.now c.args.readers.items c.requires.course c.requires.each c.requires.few in
    omega (arith, whole, next, cut, few)
