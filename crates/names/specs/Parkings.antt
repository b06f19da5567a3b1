-- What is parked on a domain's desk.
use Rattle.std.specs.Prelude.{ℕ, Bool, false, List, Option, Some, None, option_map, bytes_eq}
use Rattle.atomic_table.specs.Seated.{TableId}
use Rattle.sseq.specs.declared.index.Index.{Index}
use Rattle.sections.specs.Views.{ReadingView}

-- which domain it is of, and the section that lies there with its name
pub record ParkingView : Type 0 where
  pub domain : TableId
  pub parked : Option (List ℕ × ReadingView)

-- its index
abbrev pub index_of_parked : Option (List ℕ × ReadingView) → Option Index
index_of_parked parked = option_map (λ p. p.1.index) parked

-- an open section that may end on any processor, with its name
pub record Parked : Type 0 where
  pub name : List ℕ
  pub section : ℕ

-- what a script knows of it
abbrev pub desk_of : Option (List ℕ × ReadingView) → Option Parked
desk_of parked = option_map (λ p. record { name = p.0; section = p.1.section }) parked

-- the section on the desk has this name
abbrev pub is_parked : List ℕ → Option Parked → Bool
is_parked name None = false
is_parked name (Some p) = bytes_eq p.name name
