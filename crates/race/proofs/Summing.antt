-- Each lease that a reader laid down one of them found, but for the one that lay there in the end.
use Rattle.std.proofs.Common.{◌≡◌, ℕ, ◌+◌, ◌<◌, List, Option, is_some, map, length, get_or, sym, ap, ◌∙◌, subst, arith}
use Rattle.race.proofs.Words.{length-map, get_or-map, bit, added, Swap, swaps_of, SeatView, Closes, LeaseView, Course, Reader, laid_in, found_in, own_swaps, EachAt, IsBack, opened_by, closed_by}
use Rattle.race.proofs.Parting.{sum_by_place}
use Rattle.race.proofs.Handing.{handed, by_all_seats}

module _ (g : Course) (rs : List Reader) (many : length rs ≡ g.desk.seats) (each : EachAt (IsBack g) rs) (left : Option LeaseView) (closes : Closes g.desk (map (λ (r : Reader). r.seat) rs) left) where
  -- the swaps of a reader are those that its seat made in all
  own_in_all : (i : ℕ) (d : Reader) → i < length rs → own_swaps (get_or rs i d).seat ≡ swaps_of i closes.swaps
  own_in_all i d lt =
      let b = each i d lt in
      let long = length-map rs (λ (r : Reader). r.seat) in
      let there : i < length (map (λ (r : Reader). r.seat) rs) = omega (arith, lt, long) in
      let seat : get_or (map (λ (r : Reader). r.seat) rs) i d.seat ≡ (get_or rs i d).seat = get_or-map (λ (r : Reader). r.seat) rs i d d.seat lt in
      let seen = closes.seen i d.seat there in
      sym (subst (λ (v : SeatView LeaseView). swaps_of v.number closes.swaps ≡ swaps_of v.number v.seen) seat seen.1) ∙ ap (λ k. swaps_of k closes.swaps) (b.is.number ∙ b.number_is)

  laid_by_all : opened_by rs ≡ laid_in closes.swaps
  laid_by_all =
      sum_by_place (λ (r : Reader). r.opened) (λ k. laid_in (swaps_of k closes.swaps)) rs (λ i d lt. let b = each i d lt in let laid = b.tells.laid in let own = ap laid_in (own_in_all i d lt) in omega (arith, laid, own))
      ∙ (ap (λ n. added (λ k. laid_in (swaps_of k closes.swaps)) 0 n) many ∙ by_all_seats (λ (s : Swap LeaseView). is_some s.left) g.desk.seats closes.swaps closes.makers)

  found_by_all : closed_by rs ≡ found_in closes.swaps
  found_by_all =
      sum_by_place (λ (r : Reader). r.closed) (λ k. found_in (swaps_of k closes.swaps)) rs (λ i d lt. let b = each i d lt in let found = b.tells.found in let own = ap found_in (own_in_all i d lt) in omega (arith, found, own))
      ∙ (ap (λ n. added (λ k. found_in (swaps_of k closes.swaps)) 0 n) many ∙ by_all_seats (λ (s : Swap LeaseView). is_some s.found) g.desk.seats closes.swaps closes.makers)

  -- as many were made as were released, with the one that was left
  pub opened_closed : opened_by rs ≡ closed_by rs + bit (is_some left)
  opened_closed =
      let laid = laid_by_all in
      let found = found_by_all in
      let all = handed closes.swaps closes.in_turn in
      let last = ap (λ (x : Option LeaseView). bit (is_some x)) closes.answers in
      omega (arith, laid, found, all, last)
