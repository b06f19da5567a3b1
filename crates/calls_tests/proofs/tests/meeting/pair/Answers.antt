-- Each processor and each seat is a new one of the domain.
use Rattle.std.proofs.Common.{◌≡◌, ◌<◌, All, ap, ◌∙◌, sym, arith}
use Rattle.std.proofs.lemmas.List.Elements.{All-pop}
use Rattle.sections.specs.Views.{CpuView}
use Rattle.calls.specs.Views.{CallSeatView}
use Rattle.calls_tests.proofs.tests.meeting.pair.Goals as goal

pub returns-clause-first : goal.returns-clause-first
returns-clause-first g c =
    let m = c.in_ok-cpus.ensures.made in
    let s = c.in_ok-calls.ensures.made in
    let P : CpuView → Type 0 = λ z. z.domain ≡ c.in_ok-calls.calls.domain in
    let all : All P c.in_ok-cpus.field-0.cpus.items = λ k d lt. ap (λ (z : CpuView). z.domain) (m.cpus_new k d lt) ∙ sym s.of_domain in
    let Q : CallSeatView _ → Type 0 = λ z. (z.tallies ≡ c.in_ok-calls.calls.tallies) × (z.processor < c.in_ok-calls.calls.processors) × (z.domain ≡ c.in_ok-calls.calls.domain) in
    let seats : All Q c.in_ok-calls.seats.items = λ k d lt. (
      ap (λ (z : CallSeatView _). z.tallies) (s.seats_new.each k d lt),
      (let is = ap (λ (z : CallSeatView _). z.processor) (s.seats_new.each k d lt) in let count = s.seats_new.count in let many = s.many in omega (arith, lt, is, count, many)),
      ap
          (λ (z : CallSeatView _). z.domain) (s.seats_new.each k d lt),
    ) in
    let one = All-pop P _ _ _ c.pop.ensures.items all in
    let two = All-pop Q _ _ _ c.pop-2.ensures.items seats in
    let three = All-pop P _ _ _ c.pop-3.ensures.items one.0 in
    let four = All-pop Q _ _ _ c.pop-4.ensures.items two.0 in
    let cpu = rw c.unwrap.ensures at one.1 in
    let seat = rw c.unwrap-2.ensures at two.1 in
    let first_cpu = rw c.unwrap-3.ensures at three.1 in
    let first_seat = rw c.unwrap-4.ensures at four.1 in
    (record { domain = first_cpu; tallies = first_seat.0; there = first_seat.1 }, first_seat.2)

pub returns-clause-second : goal.returns-clause-second
returns-clause-second g c =
    let m = c.in_ok-cpus.ensures.made in
    let s = c.in_ok-calls.ensures.made in
    let P : CpuView → Type 0 = λ z. z.domain ≡ c.in_ok-calls.calls.domain in
    let all : All P c.in_ok-cpus.field-0.cpus.items = λ k d lt. ap (λ (z : CpuView). z.domain) (m.cpus_new k d lt) ∙ sym s.of_domain in
    let Q : CallSeatView _ → Type 0 = λ z. (z.tallies ≡ c.in_ok-calls.calls.tallies) × (z.processor < c.in_ok-calls.calls.processors) × (z.domain ≡ c.in_ok-calls.calls.domain) in
    let seats : All Q c.in_ok-calls.seats.items = λ k d lt. (
      ap (λ (z : CallSeatView _). z.tallies) (s.seats_new.each k d lt),
      (let is = ap (λ (z : CallSeatView _). z.processor) (s.seats_new.each k d lt) in let count = s.seats_new.count in let many = s.many in omega (arith, lt, is, count, many)),
      ap
          (λ (z : CallSeatView _). z.domain) (s.seats_new.each k d lt),
    ) in
    let one = All-pop P _ _ _ c.pop.ensures.items all in
    let two = All-pop Q _ _ _ c.pop-2.ensures.items seats in
    let three = All-pop P _ _ _ c.pop-3.ensures.items one.0 in
    let four = All-pop Q _ _ _ c.pop-4.ensures.items two.0 in
    let cpu = rw c.unwrap.ensures at one.1 in
    let seat = rw c.unwrap-2.ensures at two.1 in
    let first_cpu = rw c.unwrap-3.ensures at three.1 in
    let first_seat = rw c.unwrap-4.ensures at four.1 in
    (record { domain = cpu; tallies = seat.0; there = seat.1 }, seat.2)
