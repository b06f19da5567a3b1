-- How sixteen words become the next version of a cell.
use Rattle.std.specs.Prelude.{◌≡◌, ◌≢◌, ℕ, ◌^◌, ◌≤◌, ◌⊎◌, List}
use Rattle.onedom.specs.Histories.{IsBeginning, IsClear}
use Rattle.sections.specs.Shelves.{slot_words}
use Rattle.sections.specs.WriterViews.{WriterView, SlotView}
use Rattle.sections.specs.Writers.{IsSameWriter, Reclaims, Gives, NoneBlank}
use Rattle.domain.specs.Views.{CpuView, with_cpu}
use Rattle.domain.specs.Writers.{PutsAndAsks}
use Rattle.domain.specs.Acting.{asks_for, PutsAndThen}

-- the slot has these words then, and nothing else has changed. Nobody can read it in what the writer has then seen
pub record Fills (slot : ℕ) (text : List ℕ) (w w' : WriterView) : Type 0 where
  pub same : IsSameWriter w w'
  pub standings : w'.standings ≡ w.standings
  pub text_is : slot_words slot w'.words ≡ text
  pub others : (x : ℕ) → x ≢ slot → slot_words x w'.words ≡ slot_words x w.words
  pub since : IsBeginning w.seen w'.seen
  pub clear : IsClear w'.seen w.cell slot

module _ {J : Type 0} where
  -- what nobody can read any more became blank
  pub record Frees (w : WriterView) (c : CpuView J) (w' : WriterView) (c' : CpuView J) : Type 0 where
    pub reclaims : Reclaims w c.cpu w' c'.cpu
    pub rest : c' ≡ with_cpu c'.cpu c

  -- then a slot was given out that was blank
  pub record Claims (slot : SlotView) (w : WriterView) (c : CpuView J) (w' : WriterView) (c' : CpuView J) : Type 0 where
    pub freed : WriterView
    pub frees : Frees w c freed c'
    pub gives : Gives freed w' slot

  -- no slot was blank then, or as many versions were put as there may be. Nothing was put
  pub record FindsNone (w : WriterView) (c : CpuView J) (w' : WriterView) (c' : CpuView J) : Type 0 where
    pub frees : Frees w c w' c'
    pub none : (2 ^ 54 ≤ w'.version) ⊎ NoneBlank w'

  -- the slot was filled with these words and put, and just the cookie was asked for with which the slot that was current is retired
  pub record Puts (slot : ℕ) (text : List ℕ) (w : WriterView) (c : CpuView J) (w' : WriterView) (c' : CpuView J) : Type 0 where
    pub filled : WriterView
    pub fills : Fills slot text w filled
    pub cookie : ℕ
    pub puts : PutsAndAsks slot cookie filled c w' c'
    pub acts : PutsAndThen (asks_for cookie 0) w.cell slot w'.version c c'
