-- The rule of a desk's table: the swaps follow one another, the desk has what the last one left, and each seat of the desk has one of the other slots.
use Rattle.std.specs.Prelude.{◌≡◌, ◌≢◌, ℕ, ◌+◌, ◌<◌, ◌≤◌, List, [], ◌∷◌, length, slice_index, All, Option, None, IfSome}
use mathlib.Core.Option.{some}
use lib.ListN.{get_elem?}
use Rattle.atomic_table.specs.Seated.{TableId}
use Rattle.atomic_table.specs.Table.{State}
use Rattle.desk.specs.declared.view.Plan.{Plan}
use Rattle.desk.specs.declared.view.Role.{Role}
use Rattle.desk.specs.declared.view.Role.TheVariants.{Nobody, Dealer, Waits, Sits, Gathers}
use Rattle.desk.specs.declared.view.View.{View}
use Rattle.desk.specs.Swaps.{Swap, Account, lies_behind, AreInTurn, swaps_of, IsBeginning}

-- what a table has beside its word: the slots that are at home, the swaps so far, and for each number of a seat the table's seat and its slot
pub record Books (T : Type 0) : Type 0 where
  pub homes : List (mathlib.Core.Option.Option (Option T))
  pub swaps : List (Swap T)
  pub seat_of : ℕ → ℕ
  pub slot_of : ℕ → ℕ

-- each slot is the desk's, or that of just one seat
pub record AreSpread (seats desk : ℕ) (slot_of owner : ℕ → ℕ) : Type 0 where
  pub slots : (n : ℕ) → n < seats → (slot_of n ≤ seats) × (slot_of n ≢ desk) × (owner (slot_of n) ≡ n)
  pub owners : (i : ℕ) → i ≤ seats → i ≢ desk → (owner i < seats) × (slot_of (owner i) ≡ i)

module _ {T : Type 0} where
  -- the slot is in the table, and this lies in it
  abbrev pub Has : Books T → ℕ → Option T → Type 0
  Has b slot value = get_elem? b.homes slot ≡ some (some value)

  -- the table's seat is that of this number, and knows all of its swaps
  pub record Is (plan : Plan) (b : Books T) (id number : ℕ) (seen : List (Swap T)) : Type 0 where
    pub there : number < plan.seats
    pub here : b.seat_of number ≡ id
    pub since : IsBeginning seen b.swaps
    pub own : swaps_of number b.swaps ≡ swaps_of number seen

  abbrev pub IsOf : Plan → View T → Type 0
  IsOf plan v = (v.home ≡ plan.home) × (v.seats ≡ plan.seats)

  abbrev pub Stands : Plan → Books T → ℕ → View T → Role T → Type 0
  Stands plan b id v Nobody = Unit {0}
  Stands plan b id v (Dealer k) = IsOf plan v × ((n : ℕ) → k ≤ n → n < plan.seats → Is plan b id n [] × (b.slot_of n ≡ n + 1) × Has b (b.slot_of n) None)
  Stands plan b id v (Waits n i) = IsOf plan v × Is plan b id n v.seen × (b.slot_of n ≡ i) × Has b (b.slot_of n) None
  Stands plan b id v (Sits n i) = IsOf plan v × Is plan b id n v.seen × (b.slot_of n ≡ i)
  Stands plan b id v (Gathers over) = All (λ a. Is plan b id a.by a.seen × Has b (b.slot_of a.by) None) over

  abbrev pub Fits : Plan → Books T → ℕ → View T → Type 0
  Fits plan b id v = Stands plan b id v v.role

  pub record Kept (domain : T → TableId) (plan : Plan) (s : State (Option T) (View T)) : Type 0 where
    pub swaps : List (Swap T)
    pub seat_of : ℕ → ℕ
    pub slot_of : ℕ → ℕ
    pub owner : ℕ → ℕ
    pub one : length s.words ≡ 1
    pub room : length s.homes ≡ plan.seats + 1
    pub in_turn : AreInTurn swaps
    pub makers : All (λ x. x.by < plan.seats) swaps
    pub of_domain : IfSome (lies_behind swaps) (λ x. domain x ≡ plan.home)
    pub lies : get_elem? s.homes (slice_index s.words 0) ≡ some (some (lies_behind swaps))
    pub spread : AreSpread plan.seats (slice_index s.words 0) slot_of owner
    pub each_view : (j : ℕ) (v : View T) → get_elem? s.views j ≡ some v → Fits plan record { homes = s.homes; swaps = swaps; seat_of = seat_of; slot_of = slot_of } j v

-- Views that are made

module _ {T : Type 0} where
  abbrev pub founder : Plan → View T
  founder plan = record { home = plan.home; seats = plan.seats; role = Dealer 0; seen = [] }

  abbrev pub without_next : Role T → Role T
  without_next Nobody = Nobody
  without_next (Dealer k) = Dealer (k + 1)
  without_next (Waits n i) = Waits n i
  without_next (Sits n i) = Sits n i
  without_next (Gathers over) = Gathers over

  abbrev pub next : Role T → Role T
  next Nobody = Nobody
  next (Dealer k) = Waits k (k + 1)
  next (Waits n i) = Nobody
  next (Sits n i) = Nobody
  next (Gathers over) = Nobody

  abbrev pub dealer : View T → View T
  dealer v = record v { role = without_next v.role }

  abbrev pub dealt : View T → View T
  dealt v = record { home = v.home; seats = v.seats; role = next v.role; seen = [] }

  abbrev pub number_of : Role T → ℕ
  number_of Nobody = 0
  number_of (Dealer k) = k
  number_of (Waits n i) = n
  number_of (Sits n i) = n
  number_of (Gathers over) = 0

  abbrev pub with_account : Account T → Role T → Role T
  with_account a Nobody = Nobody
  with_account a (Dealer k) = Dealer k
  with_account a (Waits n i) = Waits n i
  with_account a (Sits n i) = Sits n i
  with_account a (Gathers over) = Gathers (a ∷ over)

  abbrev pub gathering : View T → View T → View T
  gathering v w = record v { role = with_account record { by = number_of w.role; seen = w.seen } v.role }

  -- what is left of a seat that was taken in
  abbrev pub spent : View T
  spent = record { home = record { words = 0; slots = 0; views_name = 0; atom = 0; block = 0; offset = 0; slot_names = [] }; seats = 0; role = Nobody; seen = [] }
