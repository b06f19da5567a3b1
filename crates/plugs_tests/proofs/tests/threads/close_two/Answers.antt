-- The two were pushed in their order, and there was room for both.
use Rattle.std.proofs.Common.{◌≡◌, ◌≤◌, List, [], ◌∷◌, ◌++◌, ap, sym, ◌∙◌, subst, arith}
use Rattle.std.specs.Prelude.{vec_len, vec_capacity}
use Rattle.desk.specs.Views.{SeatView}
use Rattle.desk.specs.Calls.{AreAllSeats}
use Rattle.desk.proofs.CallerLemmas.{two_seats}
use Rattle.plugs.specs.Views.{LeaseView}
use Rattle.plugs_tests.proofs.tests.threads.close_two.Goals as goal

-- one more behind those that were there
behind : (all more : List (SeatView LeaseView)) (v : SeatView LeaseView) → all ≡ more → all ++ v ∷ [] ≡ more ++ v ∷ []
behind all more v e = ap (λ (l : List (SeatView LeaseView)). l ++ v ∷ []) e

pub push_reserved-requires-2 : goal.push_reserved-requires-2
push_reserved-requires-2 g c =
    let none : vec_len c.expect-seats.result ≡ 0 = rw c.expect-seats.ensures at c.with_capacity.ensures.len in
    let two : 2 ≤ vec_capacity c.expect-seats.result = rw c.expect-seats.ensures at c.with_capacity.ensures.capacity in
    let long = c.push_reserved.ensures.len in
    let room = c.push_reserved.ensures.capacity in
    omega (arith, none, two, long, room)

pub close-requires : goal.close-requires
close-requires g c =
    let empty : c.expect-seats.result.items ≡ [] = rw c.expect-seats.ensures at c.with_capacity.ensures.items in
    let one : c.push_reserved.new.self.items ≡ c.args.first ∷ [] = c.push_reserved.ensures.items ∙ behind _ _ c.args.first empty in
    let two : c.push_reserved-2.new.self.items ≡ c.args.first ∷ c.args.second ∷ [] = c.push_reserved-2.ensures.items ∙ behind _ _ c.args.second one in
    record { seats = subst (AreAllSeats c.args.desk) (sym two) (two_seats c.args.desk c.args.first c.args.second c.requires.first.0 c.requires.second.0 c.requires.first.1 c.requires.second.1 c.requires.seats) }
