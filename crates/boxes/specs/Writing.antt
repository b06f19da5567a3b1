-- What the writer of a cell of boxes does.
use Rattle.std.specs.Prelude.{◌≡◌, ◌≢◌, ℕ, ◌*◌, ◌^◌, ◌<◌, ◌≤◌, ◌⊎◌, Option, Some, None, MatchOption, Box, slice_set}
use Rattle.std_alloc.specs.Box.{box_allocator}
use Rattle.onedom.specs.Histories.{IsClear}
use Rattle.sections.specs.declared.writer.Standing.TheVariants.{Blank, Out, Current}
use Rattle.sections.specs.Banks.{no_plan}
use Rattle.sections.specs.Shelves.{offer_of}
use Rattle.sections.specs.Views as sections
use Rattle.sections.specs.WriterViews.{WriterView}
use Rattle.sections.specs.Writers.{IsSameWriter, Reclaims, standing_of}
use Rattle.domain.specs.Views.{CpuView, with_cpu}
use Rattle.domain.specs.Writers.{PutsAndAsks}
use Rattle.boxes.specs.Boxes.{Stored, BoxWriterView, cell_of, stored_at}
use Rattle.boxes.specs.Laying.{IsNotFree, share}

-- no key was laid in the cell yet
abbrev pub IsPlain : WriterView → Type 0
IsPlain w = w.plan ≡ no_plan

module _ {J : Type 0} where
  -- the keys were laid, and then a version was put with which readers learn of them
  pub record Equips (w : WriterView) (c : CpuView J) (w' : WriterView) (c' : CpuView J) : Type 0 where
    pub equipped : WriterView
    pub same : IsSameWriter w equipped
    pub slot : ℕ
    pub cookie : ℕ
    pub puts : PutsAndAsks slot cookie equipped c w' c'

-- the writer is handed back as it was
abbrev pub IsHandedBack : WriterView → WriterView → Type 0
IsHandedBack w back = IsSameWriter w back × (back.plan ≡ w.plan)

module _ {V A : Type 0} where
  -- each slot that is blank has a box that is to come back first, or 2 ^ 54 versions were put
  abbrev pub NoneFree : BoxWriterView V A → Type 0
  NoneFree w = (2 ^ 54 ≤ w.writer.version) ⊎ ((x : ℕ) → x < w.writer.slots → IsNotFree w x)

  -- the slot has no box, or is not blank
  abbrev pub IsNotBack : BoxWriterView V A → ℕ → Type 0
  IsNotBack w x = (stored_at w x ≡ None) ⊎ (standing_of w.writer x ≢ Blank)

  -- the slot was blank, and nobody can read it. Its box came back, so the slot is free. It was given out, and given back: each other one stands as it did
  pub record TakesBack (s : Stored V A) (x : ℕ) (w w' : BoxWriterView V A) : Type 0 where
    pub room : w.writer.version < 2 ^ 54
    pub blank : standing_of w.writer x ≡ Blank
    pub clear : IsClear w'.writer.seen w.writer.cell x
    pub was : stored_at w x ≡ Some s
    pub stored : w'.stored ≡ slice_set w.stored x None
    pub free : standing_of w'.writer x ≡ Blank
    pub standings : w'.writer.standings ≡ slice_set (slice_set w.writer.standings x Out) x Blank
    pub cell : cell_of w' ≡ cell_of w
    pub same : IsSameWriter w.writer w'.writer

  -- it was asked once after the cookie of each retired slot, and a box that lay in a blank slot came back
  pub record ComesBack (s : Stored V A) (w : BoxWriterView V A) (c : sections.CpuView) (w' : BoxWriterView V A) (c' : sections.CpuView) : Type 0 where
    pub asked : WriterView
    pub reclaims : Reclaims w.writer c asked c'
    pub slot : ℕ
    pub inside : slot < w.writer.slots
    pub takes : TakesBack s slot (record w { writer = asked }) w'

  -- none did: no blank slot has one
  pub record NoneComesBack (w : BoxWriterView V A) (c : sections.CpuView) (w' : BoxWriterView V A) (c' : sections.CpuView) : Type 0 where
    pub reclaims : Reclaims w.writer c w'.writer c'
    pub none : (2 ^ 54 ≤ w'.writer.version) ⊎ ((x : ℕ) → x < w.writer.slots → IsNotBack w' x)
    pub rest : w' ≡ record w { writer = w'.writer }

  -- the box is this one: it has its value, and lies at its allocator
  abbrev pub IsBoxOf : Box V A → Stored V A → Type 0
  IsBoxOf b s = (b.value ≡ s.value) × (box_allocator b ≡ s.heap)

  -- this box came back, or none did
  abbrev pub BringsBack : Option (Box V A) → BoxWriterView V A → sections.CpuView → BoxWriterView V A → sections.CpuView → Type 0
  BringsBack back w c w' c' = MatchOption back (NoneComesBack w c w' c') (λ b. (s : Stored V A) × IsBoxOf b s × ComesBack s w c w' c')

  module _ {J : Type 0} where
    -- a blank slot with no box was given out and put, and just the cookie was asked for with which the slot that was current is retired
    pub record PutsVersion (cookie : ℕ) (w : BoxWriterView V A) (c : CpuView J) (w' : BoxWriterView V A) (c' : CpuView J) : Type 0 where
      pub slot : ℕ
      pub inside : slot < w.writer.slots
      pub free : (stored_at w slot ≡ None) × (standing_of w.writer slot ≡ Blank)
      pub filled : WriterView
      pub same : IsSameWriter w.writer filled
      pub standings : filled.standings ≡ slice_set w.writer.standings slot Out
      pub words : filled.words ≡ w.writer.words
      pub seen : filled.seen ≡ w.writer.seen
      pub puts : PutsAndAsks slot cookie filled c w'.writer c'
      pub cell : cell_of w' ≡ cell_of w

    -- the version is of this box: whoever finds it reads the box's value. Each processor has its share of the box's parts. The slot stands as the current one, so the box stays until another version is put
    pub record PutsBox (s : Stored V A) (cookie : ℕ) (w : BoxWriterView V A) (c : CpuView J) (w' : BoxWriterView V A) (c' : CpuView J) : Type 0 where
      pub version : PutsVersion cookie w c w' c'
      pub stored : w'.stored ≡ slice_set w.stored version.slot (Some s)
      pub there : stored_at w' w'.writer.current ≡ Some s
      pub stands : standing_of w'.writer w'.writer.current ≡ Current
      pub round : (offer_of w.writer.cell w'.writer.version c'.cpu.texts).round ≡ s.round
      pub laid : (offer_of w.writer.cell w'.writer.version c'.cpu.texts).laid ≡ w.processors * share
      pub each : (offer_of w.writer.cell w'.writer.version c'.cpu.texts).each ≡ w.processors

    -- the version has no box
    pub record PutsNone (cookie : ℕ) (w : BoxWriterView V A) (c : CpuView J) (w' : BoxWriterView V A) (c' : CpuView J) : Type 0 where
      pub version : PutsVersion cookie w c w' c'
      pub stored : w'.stored ≡ w.stored
      pub nothing : (offer_of w.writer.cell w'.writer.version c'.cpu.texts).laid ≡ 0
      pub each : (offer_of w.writer.cell w'.writer.version c'.cpu.texts).each ≡ 0

    -- an older box came back first, if one could, and then this one was put
    pub record Replaces (whole : Box V A) (old : Option (Box V A)) (w : BoxWriterView V A) (c : CpuView J) (w' : BoxWriterView V A) (c' : CpuView J) : Type 0 where
      pub freed : BoxWriterView V A
      pub at : CpuView J
      pub back : BringsBack old w c.cpu freed at.cpu
      pub rest : at ≡ with_cpu at.cpu c
      pub cookie : ℕ
      pub this : Stored V A
      pub is : IsBoxOf whole this
      pub puts : PutsBox this cookie freed at w' c'

    -- no box came back, and no slot was free: nothing was put
    pub record ReplacesNone (w : BoxWriterView V A) (c : CpuView J) (w' : BoxWriterView V A) (c' : CpuView J) : Type 0 where
      pub back : NoneComesBack w c.cpu w' c'.cpu
      pub none : NoneFree w'
      pub rest : c' ≡ with_cpu c'.cpu c

    -- an older box came back first, if one could, and then a version with no box was put
    pub record Retires (old : Option (Box V A)) (w : BoxWriterView V A) (c : CpuView J) (w' : BoxWriterView V A) (c' : CpuView J) : Type 0 where
      pub freed : BoxWriterView V A
      pub at : CpuView J
      pub back : BringsBack old w c.cpu freed at.cpu
      pub rest : at ≡ with_cpu at.cpu c
      pub cookie : ℕ
      pub puts : PutsNone cookie freed at w' c'
