-- What was laid on a desk was found there, but for what lies there in the end.
use Rattle.std.proofs.Common.{◌≡◌, ℕ, ◌+◌, ◌<◌, ◌==◌, Bool, List, [], ◌∷◌, All, inr, Option, None, count_by, is_some, refl, sym, ap, eq-eqb, ne_eqb, arith}
use Rattle.race.proofs.Words.{All-weaker, added, Swap, lies_after, lies_behind, AreInTurnAfter, AreInTurn, swaps_of, bit, count_cons}
use Rattle.race.proofs.Parting.{Counts, parts}

module _ {T : Type 0} where
  abbrev laid : List (Swap T) → ℕ
  laid swaps = count_by (λ s. is_some s.left) swaps

  abbrev found : List (Swap T) → ℕ
  found swaps = count_by (λ s. is_some s.found) swaps

  in_turn_after : (before : Option T) (swaps : List (Swap T)) → AreInTurnAfter before swaps → bit (is_some before) + laid swaps ≡ found swaps + bit (is_some (lies_after before swaps))
  in_turn_after before [] h = omega arith
  in_turn_after before (s ∷ later) h =
      let a = count_cons (λ (z : Swap T). is_some z.left) s later in
      let b = count_cons (λ (z : Swap T). is_some z.found) s later in
      let same = ap (λ (x : Option T). bit (is_some x)) h.0 in
      let rest = in_turn_after s.left later h.1 in
      omega (arith, a, b, same, rest)

  -- all of these counts together
  pub handed : (swaps : List (Swap T)) → AreInTurn swaps → laid swaps ≡ found swaps + bit (is_some (lies_behind swaps))
  handed swaps h = let all = in_turn_after None swaps h in omega (arith, all)

  abbrev by_seat : ℕ → Swap T → Bool
  by_seat k s = s.by == k

  one_seat : (p : Swap T → Bool) (seats : ℕ) (s : Swap T) → s.by < seats → Counts (count_by p) (λ z. bit (p z)) refl (λ z zs. count_cons p z zs) by_seat seats s
  one_seat p seats s lt = inr (record { maker = s.by; there = lt; one = eq-eqb s.by s.by refl; others = λ k ne. ne_eqb s.by k (λ e. ne (sym e)) })

  -- the swaps of all seats, counted seat by seat
  pub by_all_seats : (p : Swap T → Bool) (seats : ℕ) (swaps : List (Swap T)) → All (λ s. s.by < seats) swaps → added (λ k. count_by p (swaps_of k swaps)) 0 seats ≡ count_by p swaps
  by_all_seats p seats swaps makers =
      parts (count_by p) (λ (z : Swap T). bit (p z)) refl (λ z zs. count_cons p z zs) by_seat seats swaps
      (All-weaker (λ (s : Swap T). s.by < seats) (Counts (count_by p) (λ (z : Swap T). bit (p z)) refl (λ z zs. count_cons p z zs) by_seat seats) (λ (s : Swap T) lt. one_seat p seats s lt) swaps makers)
