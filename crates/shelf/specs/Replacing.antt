-- What replacing a value does.
use Rattle.std.specs.Prelude.{◌≡◌, ℕ, List}
use Rattle.sections.specs.WriterViews.{WriterView, SlotView}
use Rattle.domain.specs.Views.{CpuView}
use Rattle.domain.specs.Publishing.{Claims, Puts}

module _ {J : Type 0} where
  -- a blank slot was claimed, filled with these words and put, and just the cookie was asked for with which the slot that was current is retired
  pub record Replaces (text : List ℕ) (cookie : ℕ) (w : WriterView) (c : CpuView J) (w' : WriterView) (c' : CpuView J) : Type 0 where
    pub slot : SlotView
    pub claimed : WriterView
    pub at : CpuView J
    pub claims : Claims slot w c claimed at
    pub puts : Puts slot.slot text claimed at w' c'
    pub cookie_is : puts.cookie ≡ cookie
