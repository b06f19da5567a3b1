-- What the steps of the one that writes a cell do to the seats that they are made with.
use Rattle.std.specs.Prelude.{◌≡◌, ℕ, ◌+◌, ◌*◌, ◌<◌, ◌≤◌, slice_set, List, [], None}
use Rattle.atomic_table.specs.Seated.{TableId}
use Rattle.onedom.specs.declared.event.Maker.TheVariants.{Processor}
use Rattle.onedom.specs.declared.event.Event.{Event}
use Rattle.onedom.specs.declared.event.Event.TheVariants.{Put}
use Rattle.onedom.specs.Histories.{version_of, IsClear}
use Rattle.sections.specs.declared.view.Bounds.{Bounds}
use Rattle.sections.specs.declared.view.Plan.{Plan}
use Rattle.sections.specs.declared.view.View.{View}
use Rattle.sections.specs.declared.view.Role.TheVariants.{Cpu}
use Rattle.sections.specs.declared.view.Right.TheVariants.{Shelf, Undealt}
use Rattle.sections.specs.Words.{word_count, cells_in}
use Rattle.sections.specs.Shelves.{slot_words, offer_of}
use Rattle.sections.specs.Banks.{offered, plan_put}
use Rattle.sections.specs.Rule.{lacking, bearer, informed}
use Rattle.sections.specs.Plays.{Adds, Keeps, EndsWithText, ComesFrom}
use Rattle.sections.specs.Seats.{DomainSeat}

-- the table of a domain with these bounds
abbrev pub IsWide : Bounds → TableId → Type 0
IsWide bounds table = (table.words ≡ word_count bounds.processors bounds.cells) × (bounds.cells ≤ 4)

-- the seat has the right to the cell
pub record HasPen (table : TableId) (cell : ℕ) (pen : DomainSeat) : Type 0 where
  pub seated : pen.table_id ≡ table
  pub bare : pen.me.1 ≡ []
  pub own : List ℕ
  pub upto : List Event
  pub plan : Plan
  pub right : pen.me.0.right ≡ Shelf cell own upto plan
  pub free : plan.hand ≡ None
  pub inside : cell < cells_in table

-- it knows that nobody can read the slot
abbrev pub CanWrite : ℕ → ℕ → DomainSeat → Type 0
CanWrite cell slot pen = (own : List ℕ) (h : List Event) (q : Plan) → pen.me.0.right ≡ Shelf cell own h q → IsClear h cell slot

-- the word is that of the next version in this slot
abbrev pub PutsNext : ℕ → ℕ → ℕ → DomainSeat → Type 0
PutsNext cell slot word pen = (own : List ℕ) (h : List Event) (q : Plan) → pen.me.0.right ≡ Shelf cell own h q → word ≡ 16 * (version_of cell h + 1) + slot

-- the next version was put, behind all that the two had seen, with the words of the slot. The right is with the second again
pub record PutsIn (cell slot : ℕ) (seat pen seat' pen' : DomainSeat) : Type 0 where
  pub after : View
  pub adds : (p : ℕ) (own : List ℕ) (h : List Event) (q : Plan) → seat.me.0.role ≡ Cpu p → pen.me.0.right ≡ Shelf cell own h q
      → Adds (informed seat.me.0 (bearer pen.me.0)) (Put cell slot (version_of cell h + 1) (Processor p)) after × (after.right ≡ Shelf cell own after.seen (plan_put q slot))
      × EndsWithText cell (slot_words slot own) after.texts × ComesFrom cell h after.seen (Put cell slot (version_of cell h + 1) (Processor p)) × (offer_of cell (version_of cell h + 1) after.texts ≡ offered q slot)
  pub same_table : (seat'.table_id ≡ seat.table_id) × (pen'.table_id ≡ seat.table_id)
  pub stays : seat'.me ≡ (lacking after, [])
  pub given : pen'.me ≡ (bearer after, [])

-- a word of the slot was stored, which nobody could read then
pub record StoresIn (cell slot place value : ℕ) (pen pen' : DomainSeat) : Type 0 where
  pub same_table : pen'.table_id ≡ pen.table_id
  pub bare : pen'.me.1 ≡ []
  pub keeps : (own : List ℕ) (h : List Event) (q : Plan) → pen.me.0.right ≡ Shelf cell own h q
      → Keeps cell h pen.me.0 pen'.me.0 × (pen'.me.0.right ≡ Shelf cell (slice_set own (16 * slot + place) value) pen'.me.0.seen q) × IsClear pen'.me.0.seen cell slot

-- the cell was loaded, behind all that both had seen
pub record RefreshesIn (cell : ℕ) (seat pen pen' : DomainSeat) : Type 0 where
  pub same_table : pen'.table_id ≡ seat.table_id
  pub bare : pen'.me.1 ≡ []
  pub keeps : (own : List ℕ) (h : List Event) (q : Plan) → pen.me.0.right ≡ Shelf cell own h q
      → Keeps cell h (informed (bearer seat.me.0) (bearer pen.me.0)) pen'.me.0 × (pen'.me.0.right ≡ Shelf cell own pen'.me.0.seen q)

-- the seat of a new domain, which has the right to the cells from this one on
pub record DealsPens (table : TableId) (cell : ℕ) (seat : DomainSeat) : Type 0 where
  pub seated : seat.table_id ≡ table
  pub some : 0 < table.words
  pub right : seat.me.0.right ≡ Undealt cell
  pub nothing : seat.me.0.seen ≡ []
  pub untold : seat.me.0.texts ≡ []
  pub still : seat.me.0.changes ≡ 0

-- it has let go of one
pub record DealsPen (cell : ℕ) (seat seat' : DomainSeat) : Type 0 where
  pub same_table : seat'.table_id ≡ seat.table_id
  pub me : seat'.me ≡ (record seat.me.0 { right = Undealt (cell + 1) }, seat.me.1)
