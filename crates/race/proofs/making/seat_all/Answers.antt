-- The last processor that is left gets the last seat that is left.
use Rattle.std.proofs.Common.{rules, ◌≡◌, ℕ, length, subst, arith}
use Rattle.race.proofs.Words.{vec_len, SeatView, new_seat, LeaseView, Reader, EachAt, IsNewCpu}
use Rattle.race.proofs.Placing.{each_popped, last_popped, each_pushed}
use Rattle.race.proofs.Seating.{IsNext, seated, popped, in_order}
use Rattle.race.proofs.making.seat_all.Goals as goal

pub loop-seat-preserved : goal.loop-seat-preserved
loop-seat-preserved c =
    let before = c.loop-seat.invariant in
    let course = c.args.course.now in
    let n = vec_len c.args.seats in
    let Seat : ℕ → SeatView LeaseView → Type 0 = λ k v. v ≡ new_seat course.desk k in
    let cpus = popped (IsNewCpu course) c.loop-seat.cpus.items c.pop-in-Some.new.self.items _ c.pop-in-Some.ensures.items before.cpus in
    let cpu : IsNewCpu course (length c.pop-in-Some.new.self.items) c.unwrap.result = rw c.unwrap.ensures at cpus.1 in
    let seat = last_popped Seat c.loop-seat.seats.items c.pop.new.self.items c.in-Some.seat c.in-Some.ensures.items before.seats in
    let seats_long : vec_len c.pop.new.self ≡ length c.pop.new.self.items = c.pop.new.self.ok.0 in
    let cpus_long : vec_len c.pop-in-Some.new.self ≡ length c.pop-in-Some.new.self.items = c.pop-in-Some.new.self.ok.0 in
    let readers_long : vec_len c.loop-seat.readers ≡ length c.loop-seat.readers.items = c.loop-seat.readers.ok.0 in
    let one = c.in-Some.ensures.cases in
    let as_many : vec_len c.pop-in-Some.new.self ≡ vec_len c.pop.new.self = search rules in
    let same : length c.pop-in-Some.new.self.items ≡ length c.pop.new.self.items = omega (arith, seats_long, cpus_long, as_many) in
    let reader : Reader = record { cpu = c.unwrap.result; seat = c.in-Some.seat; opened = 0; closed = 0 } in
    let place = cpu.number_is in
    let all = before.all in
    let next : IsNext course n (length c.loop-seat.readers.items) reader = record {
      made = seated course (length c.pop.new.self.items) c.unwrap.result c.in-Some.seat c.requires.course (subst (λ k. IsNewCpu course k c.unwrap.result) same cpu) seat;
      number_is = omega (arith, place, same, seats_long, readers_long, one, all);
    } in record {
      cpus = cpus.0;
      seats = each_popped Seat c.loop-seat.seats.items c.pop.new.self.items c.in-Some.seat c.in-Some.ensures.items before.seats;
      readers = each_pushed (IsNext course n) c.loop-seat.readers.items c.push_reserved.new.self.items reader c.push_reserved.ensures.items before.readers next;
      as_many = as_many;
      all = search rules;
      room = search rules;
    }

pub returns-clause-each : goal.returns-clause-each
returns-clause-each c =
    let before = c.loop-seat.invariant in
    let long : vec_len c.args.seats ≡ length c.loop-seat.readers.items =
    (let none = c.in_default.ensures.cases in
    let readers_long : vec_len c.loop-seat.readers ≡ length c.loop-seat.readers.items = c.loop-seat.readers.ok.0 in
    let all = before.all in
    omega (arith, none, readers_long, all)) in
    in_order c.args.course.now c.loop-seat.readers.items c.reverse.new.self.items c.reverse.ensures.items (subst (λ n. EachAt (IsNext c.args.course.now n) c.loop-seat.readers.items) long before.readers)
