-- A sign that a worker gave is given.
use Rattle.std.proofs.Common.{Bool, true, false, Some, ◌∷◌, inl, inr}
use Rattle.trail.specs.Views.{SightView}
use Rattle.domain.specs.Views.{CpuView}
use Rattle.driver.specs.Signs.{StopView, Word, SaysGiven}
use Rattle.srcu.specs.Telling.{Tells}

module _ {J : Type 0} where
  pub says_given : (p : StopView) (c c' : CpuView J) (by_ticket : Bool) (told : SightView Word) → Tells p c by_ticket told c' → SaysGiven p told
  says_given p c c' true told h = (Some h.ticket, h.says)
  says_given p c c' false told (inl was) = (was.by, record { stop = was.stop; before = Some was.by ∷ was.before; seen = was.seen })
  says_given p c c' false told (inr h) = h.1
