-- What each step on a bay's table tells the seat that makes it.
use Rattle.std.specs.Prelude.{◌≡◌, ℕ, List, [], ◌∷◌, Option, Some, None, IfSome}
use Rattle.atomic_table.specs.Seated.{TableId}
use Rattle.atomic_table.specs.Table.{Me}
use Rattle.annals.specs.Rule.{number_of}
use Rattle.desk.specs.BayViews.{BaySeatView}
use Rattle.desk.specs.BayCalls.{MakesSwap, IsHeldElsewhere}
use Rattle.desk.specs.BayRule.{View, word_of}

abbrev pub Sat : Type 0 → Type 0
Sat T = Me (Option T) (View T)

module _ {T : Type 0} where
  -- a view of a bay's seat, at this table
  abbrev pub as_bay_seat : TableId → View T → BaySeatView T
  as_bay_seat table v = record { bay = table; domain = v.client.home; seats = v.client.seats; number = number_of v.role; first = v.client.first; seen = v.seen }

  -- the slot is with the seat, if something lay there
  abbrev pub carried : Option T → List (ℕ × Option T)
  carried None = []
  carried (Some x) = (0, Some x) ∷ []

  -- the seat has what lay there
  pub record Takes (domain : T → TableId) (like : T → T → Type 0) (m : Sat T) (n : ℕ) (m' : Sat T) : Type 0 where
    pub found : Option T
    pub word : n ≡ word_of found
    pub of_domain : IfSome found (λ x. domain x ≡ m.0.client.home)
    pub alike : IfSome found (λ x. IfSome m.0.client.first (λ y. like y x))
    pub now : m' ≡ (record m.0 { seen = m'.0.seen }, carried found)
    pub swap : (table : TableId) → MakesSwap (as_bay_seat table m.0) None found (as_bay_seat table m'.0)
    pub elsewhere : (table : TableId) → found ≡ None → IsHeldElsewhere (as_bay_seat table m'.0)

  abbrev pub took : (T → TableId) → (T → T → Type 0) → Sat T → ℕ → Sat T → Type 0
  took domain like m n m' = Takes domain like m n m'

  -- what the seat had lies there
  pub record Puts (m m' : Sat T) : Type 0 where
    pub now : m' ≡ (record m.0 { seen = m'.0.seen }, [])
    pub swap : (table : TableId) (x : T) → m.1 ≡ (0, Some x) ∷ [] → MakesSwap (as_bay_seat table m.0) (Some x) None (as_bay_seat table m'.0)

  abbrev pub put_back : Sat T → ℕ → Sat T → Type 0
  put_back m n m' = Puts m m'
