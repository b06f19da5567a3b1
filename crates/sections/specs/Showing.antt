-- A box that is shown to a closure by a section that ends then.
use Rattle.std.specs.Prelude.{◌≡◌, ℕ, ◌+◌, ◌*◌, ◌/◌, ◌%◌, ◌<◌, ◌≤◌, ◌⊎◌, List, [], None, Some, length, slice_index_or}
use Rattle.sseq.specs.declared.index.Index.{Index}
use Rattle.onedom.specs.declared.event.Maker.TheVariants.{Processor}
use Rattle.onedom.specs.declared.event.Event.TheVariants.{Find}
use Rattle.sections.specs.declared.view.Role.TheVariants.{Cpu}
use Rattle.sections.specs.declared.view.Right.TheVariants.{Section}
use Rattle.sections.specs.declared.view.Lent.{Lent}
use Rattle.sections.specs.declared.view.View.{View}
use Rattle.sections.specs.Shelves.{IsKnown, word_of}
use Rattle.sections.specs.Taking.{Catches}
use Rattle.sections.specs.Plays.{Adds}
use Rattle.sections.specs.Seats.{DomainSeat}
use Rattle.sections.specs.Pins.{SeesAll}
use Rattle.sections.specs.Views.{CpuView, ReadingView, FoundView}
use Rattle.sections.specs.Calls.{Unlocks}
use Rattle.sections.specs.Reads.{Finds, word_loads, ReadsWords}
use Rattle.sections.specs.Loans.{offer_found, CatchesUp}

-- the seat itself has the right to a section with which nothing is out
pub record HasSection (seat : DomainSeat) : Type 0 where
  pub section : ℕ
  pub begun_on : ℕ
  pub index : Index
  pub right : seat.me.0.right ≡ Section section begun_on index [] None

-- the section of the seat's right found what the word says
abbrev pub FindsThere : ℕ → ℕ → View → View → Type 0
FindsThere cell word v at = (s q p : ℕ) (i : Index) (us : List Lent) → v.role ≡ Cpu p → v.right ≡ Section s q i us None → Adds v (Find s cell (word % 16) (word / 16) (Processor p)) at × IsKnown cell (word / 16) at.texts × (word % 16 < 8)

-- and the seat caught up with what its key tells
pub record ShowsHere (cell : ℕ) (seat seat' : DomainSeat) : Type 0 where
  pub word : ℕ
  pub at : View
  pub finds : FindsThere cell word seat.me.0 at
  pub catches : Catches at seat'.me.0
  pub right : seat'.me.0.right ≡ seat.me.0.right
  pub same_table : seat'.table_id ≡ seat.table_id
  pub bare : seat'.me.1 ≡ []

-- no part was laid for this processor with the version that was found
abbrev pub HasNoneAt : ℕ → FoundView → Type 0
HasNoneAt p f = (offer_found f).each ≤ p

-- the key of this processor was given back with the one part of it that was found there, and nothing was drawn or paid since
abbrev pub HasOneLeft : FoundView → CpuView → Type 0
HasOneLeft f c = c.left ≡ Some (record { slot = 8 * f.cell + f.slot; count = 1 })

-- why no part is drawn
abbrev pub LacksParts : FoundView → CpuView → Type 0
LacksParts f c = HasNoneAt c.processor f ⊎ HasOneLeft f c

-- the section of the reading found this version of the cell, and then it ended
pub record FindsAndEnds (cell : ℕ) (r : ReadingView) (c c' : CpuView) : Type 0 where
  pub at : CpuView
  pub found : FoundView
  pub finds : Finds cell r c at found
  pub caught : CpuView
  pub catches : CatchesUp r found at caught
  pub ends : Unlocks r caught c'

-- or it loaded these sixteen words of that version
pub record ReadsHere (cell : ℕ) (seat : DomainSeat) (words : List ℕ) (seat' : DomainSeat) : Type 0 where
  pub word : ℕ
  pub at : View
  pub finds : FindsThere cell word seat.me.0 at
  pub long : length words ≡ 16
  pub loads : SeesAll (word_loads cell (word / 16) 0 words) at seat'.me.0
  pub values : (k : ℕ) → k < length words → slice_index_or words k 0 ≡ word_of cell (word / 16) k at.texts
  pub right : seat'.me.0.right ≡ seat.me.0.right
  pub same_table : seat'.table_id ≡ seat.table_id
  pub bare : seat'.me.1 ≡ []

-- the section of the reading found this version of the cell, its words were loaded, and then the section ended
pub record ReadsAndEnds (cell : ℕ) (r : ReadingView) (words : List ℕ) (c c' : CpuView) : Type 0 where
  pub at : CpuView
  pub found : FoundView
  pub finds : Finds cell r c at found
  pub read : CpuView
  pub reads : ReadsWords r found words at read
  pub ends : Unlocks r read c'
