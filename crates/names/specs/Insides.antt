-- How the names in use are kept, and what is parked.
use Rattle.std.specs.Prelude.{◌≡◌, ℕ, List, [], ◌∷◌, Option, Some, None}
use Rattle.sseq.specs.declared.index.Index.{Index}
use Rattle.indexmap.specs.IndexMap.{spare}
use Rattle.sections.specs.Views.{ReadingView}
use Rattle.desk.specs.Swaps.{lies_behind}
use Rattle.desk.specs.Views.{SeatView}
use Rattle.names.specs.declared.names.Names.TheInside as names
use Rattle.names.specs.declared.parking.Label.{Label}
use Rattle.names.specs.declared.parking.Parking.TheInside as parking
use Rattle.names.specs.OpenSections.{count_of}
use Rattle.names.specs.Tokens.{NamesView, held_of}
use Rattle.names.specs.Parkings.{ParkingView}

module _ {A : Type 0} where
  abbrev pub view_of_names : names.Inside A → NamesView A
  view_of_names n = record { tokens = n.tokens.entries; room = spare n.tokens }

  -- the counts are those of the tokens
  pub record AreNames (n : names.Inside A) : Type 0 where
    pub counted : (i : Index) → count_of i n.open ≡ held_of i n.tokens.entries

-- the section that lies on the desk, under the name that was kept of it
abbrev pub under_name : Option Label → Option ReadingView → Option (List ℕ × ReadingView)
under_name None found = None
under_name (Some l) None = None
under_name (Some l) (Some r) = Some (l.name, r)

-- a section lies there where something is known of one, and has this index
abbrev pub IsLabelled : Option Label → Option ReadingView → Type 0
IsLabelled None found = found ≡ None
IsLabelled (Some l) found = (r : ReadingView) × (found ≡ Some r) × (r.index ≡ l.index)

-- what lies on the desk, as its one seat knows
abbrev pub lies_on : List (SeatView ReadingView) → Option ReadingView
lies_on [] = None
lies_on (seat ∷ seats) = lies_behind seat.seen

module _ {A : Type 0} where
  abbrev pub view_of_parking : parking.Inside A → ParkingView
  view_of_parking p = record { domain = p.desk.domain; parked = under_name p.label (lies_on p.seats.items) }

  -- all of the desk's seats are its one seat, and what lies there is what is known of it
  pub record IsParking (p : parking.Inside A) : Type 0 where
    pub seat : SeatView ReadingView
    pub only : p.seats.items ≡ seat ∷ []
    pub one : (p.desk.seats ≡ 1) × (seat.seats ≡ 1) × (seat.number ≡ 0)
    pub here : seat.desk ≡ p.desk.desk
    pub of_domain : seat.domain ≡ p.desk.domain
    pub labelled : IsLabelled p.label (lies_behind seat.seen)
