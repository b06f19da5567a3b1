-- The plug-in table of a domain in one hand.
use Rattle.std.specs.Prelude.{◌≡◌, ◌≢◌, ℕ, ◌<◌, None, List}
use Rattle.atomic_table.specs.Seated.{TableId}
use Rattle.sections.specs.declared.limits.Limits.{Limits}
use Rattle.sections.specs.Shelves.{words_of}
use Rattle.sections.specs.Words.{cells_in, locks}
use Rattle.scan.specs.Standings.{index_now}
use Rattle.plugs.specs.declared.rows.Row.{Row}
use Rattle.plugs.specs.declared.refusals.InstallRefusal.{InstallRefusal}
use Rattle.plugs.specs.declared.refusals.InstallRefusal.TheVariants as install
use Rattle.plugs.specs.declared.refusals.RemoveRefusal.{RemoveRefusal}
use Rattle.plugs.specs.declared.refusals.RemoveRefusal.TheVariants as remove
use Rattle.plugs.specs.Tables.{plug_of, IsTable, IsFull, Maps, Unmaps, text_of}
use Rattle.plugs.specs.Views.{TableState, LeaseView}
use Rattle.solo.specs.Calls.{SoloView, IsReadingAt}
use Rattle.solo.specs.Courses.{Course, Does}
use Rattle.solo.specs.Shelf.{in_cell}
use Rattle.solo.specs.Versions.{leases, Puts, LacksSlot}

-- the table is of this domain, and what is current in its cell are its rows
pub record IsCurrent {J : Type 0} (d : SoloView J) (s : TableState) : Type 0 where
  pub here : s.writer.domain ≡ d.table
  pub cell : (s.writer.cell < cells_in d.table) × (s.writer.cell < 4)
  pub table : IsTable s.rows
  pub text : in_cell s.writer.cell d.shelf ≡ text_of s.rows

-- the same table, in the same cell
pub record IsSameTable (s s' : TableState) : Type 0 where
  pub domain : s'.writer.domain ≡ s.writer.domain
  pub cell : s'.writer.cell ≡ s.writer.cell

-- Changes

-- the key has the plug, and all rows are the next version
pub record Installs (p key plug version : ℕ) (s s' : TableState) (c c' : Course) : Type 0 where
  pub maps : Maps key plug s.rows s'.rows
  pub puts : Puts p s.writer s'.writer c c'
  pub version_is : version ≡ s'.writer.version

-- the key had a plug and has none, and all rows are the next version
pub record Removes (p key version : ℕ) (s s' : TableState) (c c' : Course) : Type 0 where
  pub there : plug_of s.rows key ≢ None
  pub unmaps : Unmaps key s.rows s'.rows
  pub puts : Puts p s.writer s'.writer c c'
  pub version_is : version ≡ s'.writer.version

-- nothing was done
abbrev pub DoesNothing : TableState → TableState → Course → Course → Type 0
DoesNothing s s' c c' = (s' ≡ s) × (c' ≡ c)

-- no slot was free, and the rows are those that were there
pub record HasNoSlot (p : ℕ) (s s' : TableState) (c c' : Course) : Type 0 where
  pub lacks : LacksSlot p s.writer s'.writer c c'
  pub rows : s'.rows ≡ s.rows

-- why a key gets no plug: the first that holds. Memory is never wanting
abbrev pub IsNotInstalled : ℕ → ℕ → InstallRefusal → TableState → TableState → Course → Course → Type 0
IsNotInstalled p key install.Full s s' c c' = IsFull key s.rows × DoesNothing s s' c c'
IsNotInstalled p key install.NoSlot s s' c c' = (¬ IsFull key s.rows) × HasNoSlot p s s' c c'
IsNotInstalled p key install.Memory s s' c c' = ⊥

-- why a key keeps its plug
abbrev pub IsNotRemoved : ℕ → ℕ → RemoveRefusal → TableState → TableState → Course → Course → Type 0
IsNotRemoved p key remove.NotThere s s' c c' = (plug_of s.rows key ≡ None) × DoesNothing s s' c c'
IsNotRemoved p key remove.NoSlot s s' c c' = (plug_of s.rows key ≢ None) × HasNoSlot p s s' c c'

-- Leases

-- the version of the lease has these rows
pub record HoldsRows (lease : LeaseView) (rows : List Row) : Type 0 where
  pub table : IsTable rows
  pub text : words_of lease.found.cell lease.found.version lease.found.texts ≡ text_of rows

-- a section of the index that now is begins on the processor, and finds what is current in the cell; it is held by the lease
pub record Leases (limits : Limits) (table : TableId) (p cell : ℕ) (lease : LeaseView) (c c' : Course) : Type 0 where
  pub room : locks p (index_now c.standing) c.standing.history < limits.sections
  pub slot : ℕ
  pub happens : Does p (leases lease.held.section (index_now c.standing) cell slot lease.found.version) c c'
  pub reading : IsReadingAt table p (index_now c.standing) lease.held
