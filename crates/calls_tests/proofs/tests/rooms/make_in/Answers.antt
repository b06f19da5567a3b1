-- The one seat is a new one of the callbacks.
use Rattle.std.proofs.Common.{◌≡◌, ◌<◌, ℕ, All, ap, ◌∙◌, sym, arith}
use Rattle.std.proofs.lemmas.List.Elements.{All-pop}
use Rattle.calls.specs.Views.{CallSeatView}
use Rattle.calls_tests.proofs.tests.rooms.make_in.Goals as goal

first : (k n : ℕ) → n ≡ 1 → k < n → k ≡ 0
first k n one lt = omega (arith, one, lt)

pub returns : goal.returns
returns c =
    let s = c.in_ok-calls.ensures.made in
    let one = c.requires.engine.0 in
    let Q : CallSeatView _ → Type 0 = λ z. (z.tallies ≡ c.in_ok-calls.calls.tallies) × (z.processor ≡ 0) × (z.domain ≡ c.in_ok-calls.calls.domain) in
    let seats : All Q c.in_ok-calls.seats.items = λ k d lt.
    (ap (λ (z : CallSeatView _). z.tallies) (s.seats_new.each k d lt), ap (λ (z : CallSeatView _). z.processor) (s.seats_new.each k d lt) ∙ first k _ (s.seats_new.count ∙ one) lt, ap (λ (z : CallSeatView _). z.domain) (s.seats_new.each k d lt)) in
    let seat = rw c.unwrap-seat.ensures at (All-pop Q _ _ _ c.pop.ensures.items seats).1 in
    let zero = seat.1 in
    let many = s.many in
    record { domain = c.requires.engine.1 ∙ sym s.of_domain; seat = seat.2; tallies = seat.0; cpu = c.requires.cpu ∙ sym seat.1; there = omega (arith, zero, many, one) }
