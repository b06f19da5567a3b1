-- What the users of versions do in one hand: a version is put, or none, and one is read.
use Rattle.std.specs.Prelude.{◌≡◌, ℕ, ◌+◌, ◌^◌, ◌<◌, ◌≤◌, ◌⊎◌, Bool, [], ◌∷◌, ◌++◌, slice_set}
use Rattle.sseq.specs.declared.index.Index.{Index}
use Rattle.onedom.specs.declared.event.Maker.TheVariants.{Processor}
use Rattle.onedom.specs.declared.event.Event.TheVariants.{Begin, End, Note, Find, Put}
use Rattle.sections.specs.declared.limits.Limits.{Limits}
use Rattle.sections.specs.declared.writer.Standing.TheVariants.{Current, Retired}
use Rattle.sections.specs.Words.{locks}
use Rattle.sections.specs.WriterViews.{WriterView, SlotView}
use Rattle.sections.specs.Writers.{IsSameWriter, Gives, NoneBlank, standing_of, reclaimed, questions}
use Rattle.scan.specs.Standings.{index_now}
use Rattle.domain.specs.Acting.{Act}
use Rattle.solo.specs.Courses.{Course, Does, all_of}

-- Acts

-- it is asked of each retired slot whether its cookie is done
abbrev pub reclaims : (ℕ → Bool) → WriterView → ℕ → Act
reclaims done w p = all_of (questions p done w w.slots) 0

-- then the slot is put as this version, and a cookie of this number is given and asked for
abbrev pub publishes : (ℕ → Bool) → WriterView → ℕ → ℕ → ℕ → ℕ → Act
publishes done w slot version cookie p = all_of (questions p done w w.slots ++ Put w.cell slot version (Processor p) ∷ Note cookie (Processor p) ∷ []) cookie

-- a section begins, finds this version in the cell, and ends
abbrev pub visits : ℕ → Index → ℕ → ℕ → ℕ → ℕ → Act
visits section index cell slot version p = all_of (Begin section p index (Processor p) ∷ Find section cell slot version (Processor p) ∷ End section p (Processor p) ∷ []) 0

-- it begins, and finds this version
abbrev pub leases : ℕ → Index → ℕ → ℕ → ℕ → ℕ → Act
leases section index cell slot version p = all_of (Begin section p index (Processor p) ∷ Find section cell slot version (Processor p) ∷ []) 0

-- Changes

-- each retired slot whose cookie is done is blank again, and each other slot is as it was
pub record Frees (done : ℕ → Bool) (w w' : WriterView) : Type 0 where
  pub standings : (x : ℕ) → x < w.slots → standing_of w' x ≡ reclaimed (done x) (standing_of w x)
  pub same : IsSameWriter w w'

-- a slot that was blank then is current, as the next version. The one that was current is retired with the cookie that was given
pub record Puts (p : ℕ) (w w' : WriterView) (c c' : Course) : Type 0 where
  pub done : ℕ → Bool
  pub freed : WriterView
  pub frees : Frees done w freed
  pub given : WriterView
  pub slot : SlotView
  pub gives : Gives freed given slot
  pub version : w'.version ≡ given.version + 1
  pub cookie : ℕ
  pub standings : w'.standings ≡ slice_set (slice_set given.standings given.current (Retired cookie)) slot.slot Current
  pub current : w'.current ≡ slot.slot
  pub happens : Does p (publishes done w slot.slot w'.version cookie) c c'

-- no slot was blank then, or 2 ^ 54 versions were put
pub record LacksSlot (p : ℕ) (w w' : WriterView) (c c' : Course) : Type 0 where
  pub done : ℕ → Bool
  pub frees : Frees done w w'
  pub none : (2 ^ 54 ≤ w'.version) ⊎ NoneBlank w'
  pub happens : Does p (reclaims done w) c c'

-- Reads

-- a section of the index that now is begins on the processor, finds what is current in the cell, and ends
pub record Visits (limits : Limits) (p cell : ℕ) (c c' : Course) : Type 0 where
  pub room : locks p (index_now c.standing) c.standing.history < limits.sections
  pub section : ℕ
  pub slot : ℕ
  pub version : ℕ
  pub happens : Does p (visits section (index_now c.standing) cell slot version) c c'
