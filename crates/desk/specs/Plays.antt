-- What each step on a desk's table tells the seat that makes it.
use Rattle.std.specs.Prelude.{◌≡◌, ℕ, [], ◌∷◌, Option, None, IfSome}
use Rattle.atomic_table.specs.Seated.{TableId}
use Rattle.atomic_table.specs.Table.{Me}
use Rattle.desk.specs.declared.view.Role.TheVariants.{Waits, Sits, Gathers}
use Rattle.desk.specs.declared.view.View.{View}
use Rattle.desk.specs.Views.{SeatView}
use Rattle.desk.specs.Calls.{Swaps}
use Rattle.desk.specs.Rule.{number_of}

abbrev pub Sat : Type 0 → Type 0
Sat T = Me (Option T) (View T)

module _ {T : Type 0} where
  -- a view of a desk's seat, at this table
  abbrev pub as_seat : TableId → View T → SeatView T
  as_seat table v = record { desk = table; domain = v.home; seats = v.seats; number = number_of v.role; seen = v.seen }

  -- the seat has the slot that lay on the desk, with what lies in it
  pub record Trades (domain : T → TableId) (m : Sat T) (n : ℕ) (m' : Sat T) : Type 0 where
    pub found : Option T
    pub of_domain : IfSome found (λ x. domain x ≡ m.0.home)
    pub sits : m' ≡ (record m'.0 { role = Sits (number_of m'.0.role) n }, (n, found) ∷ [])
    pub swaps : (table : TableId) (i : ℕ) (left : Option T) → m.1 ≡ (i, left) ∷ [] → Swaps (as_seat table m.0) left found (as_seat table m'.0)

  abbrev pub traded : (T → TableId) → Sat T → ℕ → Sat T → Type 0
  traded domain m n m' = Trades domain m n m'

  abbrev pub picked_up : Sat T → ℕ → Sat T → Type 0
  picked_up m n m' = (number i : ℕ) → m.0.role ≡ Waits number i → m' ≡ (record m.0 { role = Sits number i }, (i, None) ∷ [])

  abbrev pub laid_down : Sat T → ℕ → Sat T → Type 0
  laid_down m n m' = (number i : ℕ) → m.0.role ≡ Sits number i → m' ≡ (record m.0 { role = Waits number i }, [])

  abbrev pub gathered : Sat T → ℕ → Sat T → Type 0
  gathered m n m' = m' ≡ (record m.0 { role = Gathers [] }, [])
