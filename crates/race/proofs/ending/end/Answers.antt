-- The seats and the processors are those of all workers, so what these counted is what the domain tells.
use Rattle.std.proofs.Common.{◌+◌, ◌<◌, ◌∷◌, [], ◌++◌, List, Option, MatchOption, length, refl, sym, ap, ◌∙◌, subst, arith}
use Rattle.race.proofs.Words.{most_processors, SeatView, AreAllSeats, CpuView, LeaseView, Totals, IsTakenDown, ClosesDesk, StaysInUse}
use Rattle.race.proofs.Finishing.{all_seats, all_here, few_closed, one_at_most, counts_are, cleaned_up}
use Rattle.race.proofs.ending.end.Goals as goal

pub close_desk-closed-requires-clause-seats : goal.close_desk-closed-requires-clause-seats
close_desk-closed-requires-clause-seats c = subst (λ (l : List (SeatView LeaseView)). AreAllSeats c.args.course.desk l) (sym c.take_apart-parts.ensures.seats) (all_seats c.args.course c.args.workers c.requires.back)

pub overflow_add-closed : goal.overflow_add-closed
overflow_add-closed c =
    let few : length c.args.workers.readers.items < most_processors = (let many = c.requires.back.many in let most = c.requires.few.1 in omega (arith, many, most)) in
    let all = few_closed c.args.course c.args.workers.readers.items c.requires.course c.requires.back.each few in
    let closed = c.take_apart-parts.ensures.closed in
    let one = c.close_desk-closed.ensures.closes.one in
    let at_most = one_at_most c.close_desk-closed.ensures.closes.left in
    omega (arith, all, closed, one, at_most)

pub cleanup-requires : goal.cleanup-requires
cleanup-requires c =
    let u = c.close_desk-closed.new.cpu in
    all_here c.args.course c.args.workers c.requires.back c.requires.many c.close_desk-closed.result u c.close_desk-closed.ensures.cpu c.push_reserved.new.self.items
    (c.push_reserved.ensures.items ∙ ap (λ (l : List (CpuView Unit)). l ++ u ∷ []) c.take_apart-parts.ensures.cpus)

pub returns-clause-counts : goal.returns-clause-counts
returns-clause-counts c =
    let u = c.close_desk-closed.new.cpu in
    let ended = c.close_desk-closed.result in
    let all_are = c.push_reserved.ensures.items ∙ ap (λ (l : List (CpuView Unit)). l ++ u ∷ []) c.take_apart-parts.ensures.cpus in
    let desk = subst (λ (l : List (SeatView LeaseView)). ClosesDesk c.args.course.desk l ended) c.take_apart-parts.ensures.seats c.close_desk-closed.ensures.closes in
    counts_are c.args.course c.args.workers c.requires.back c.requires.many ended u c.close_desk-closed.ensures.cpu c.push_reserved.new.self.items all_are c.requires.course c.requires.few.0
    record { opened = c.take_apart-parts.result.opened; closed = c.take_apart-parts.result.closed + ended; queued = c.args.workers.updater.queued; finished = c.args.workers.updater.finished; versions = c.args.workers.updater.versions; domain = c.ok.result }
    c.take_apart-parts.ensures.opened (ap (λ n. n + ended) c.take_apart-parts.ensures.closed) refl refl desk refl _ c.cleanup.result c.cleanup.ensures.answer c.ok.ensures.value

pub returns-clause-cleans : goal.returns-clause-cleans
returns-clause-cleans c =
    let d = c.args.course.domain in
    let cpus : List (CpuView Unit) = c.push_reserved.new.self.items in
    let u = c.close_desk-closed.new.cpu in
    record {
      ended = c.close_desk-closed.result;
      last = u;
      ends = c.close_desk-closed.ensures.cpu;
      cpus = cpus;
      all = c.push_reserved.ensures.items ∙ ap (λ (l : List (CpuView Unit)). l ++ u ∷ []) c.take_apart-parts.ensures.cpus;
      answer = subst (λ (o : Option Totals). MatchOption o (StaysInUse d cpus) (IsTakenDown d cpus)) (sym c.ok.ensures.value) (cleaned_up d cpus _ (λ x h. (x.0, x.1, x.2.items, h)) c.cleanup.result c.cleanup.ensures.answer);
    }
