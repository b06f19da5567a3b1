-- The seats of a new bay.
use Rattle.std.proofs.Common.{◌≡◌, ℕ, ◌<◌, List, [], ◌∷◌, ◌++◌, length, get_or, sym, ap, ◌∙◌, arith}
use Rattle.std.proofs.lemmas.List.{get_or_push, get_or_append_left, length-append}
use mathlib.Core.Logic.{dite}
use native.Mathlib.Decide.{ℕ_discrete}
use Rattle.atomic_table.specs.Seated.{TableId}
use Rattle.desk.specs.Glossary.{BayView, BaySeatView, new_bay_seat, bay_client, as_bay_seat, IsDealt}
use Rattle.desk.specs.declared.bay.view.Plan.{Plan}
use Rattle.annals.specs.declared.view.Role.TheVariants.{Dealer}
use Rattle.annals.specs.Rule.{dealt}
use Rattle.desk.specs.BayRule.{founder}
use Rattle.desk.specs.BayPlays.{Sat}

module _ {T : Type 0} where
  -- the bay of a table
  abbrev pub bay_of : TableId → Plan T → BayView T
  bay_of table plan = record { bay = table; domain = plan.home; seats = plan.seats; first = plan.first.value }

  abbrev pub AreNewSoFar : BayView T → List (BaySeatView T) → Type 0
  AreNewSoFar b seats = (k : ℕ) (v : BaySeatView T) → k < length seats → get_or seats k v ≡ new_bay_seat b k

  pub new_so_far : (b : BayView T) (i : ℕ) (seats : List (BaySeatView T)) (new : BaySeatView T) → length seats ≡ i → new ≡ new_bay_seat b i → AreNewSoFar b seats → AreNewSoFar b (seats ++ new ∷ [])
  new_so_far b i seats new count is all k v lt = dite (ℕ_discrete k i)
      (λ e. get_or_push seats new v k (count ∙ sym e) ∙ (is ∙ ap (λ z. new_bay_seat b z) (sym e)))
      (λ ne. let long = length-append seats (new ∷ []) in let inside : k < length seats = omega (arith, long, lt, ne, count) in get_or_append_left seats (new ∷ []) v k inside ∙ all k v inside)

  -- the bay's next seat
  pub dealt_so : (domain : T → TableId) (like : T → T → Type 0) (plan : Plan T) (t table : TableId) (number : ℕ) (old m : Sat T) → t ≡ table → old ≡ (record (founder plan) { role = Dealer number }, []) → m ≡ (dealt (bay_client domain like) old.0, []) → IsDealt plan table number (as_bay_seat t m.0)
  dealt_so domain like plan t table number old m same was cut = λ q. as_bay_seat (same q) ((ap (λ (z : Sat T). z.0) cut ∙ ap (λ (z : Sat T). dealt (bay_client domain like) z.0) was) q)
