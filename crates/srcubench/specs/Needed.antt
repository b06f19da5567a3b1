-- The needs of the measured engine.
use Rattle.std.specs.Prelude.{◌≡◌, ℕ, ◌+◌, ◌^◌, length}
use Rattle.sections.specs.Views.{CpuView}

-- one load was made on the processor, and it asks for every period that there may be
pub record LoadsOnce (found : ℕ) (c c' : CpuView) : Type 0 where
  pub greatest : found ≡ 2 ^ 61
  pub once : length c'.steps ≡ length c.steps + 1
