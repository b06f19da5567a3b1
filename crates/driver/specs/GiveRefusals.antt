-- Why a sign is not given.
use Rattle.std.specs.Prelude.{◌≡◌}
use Rattle.driver.specs.declared.refusals.GiveRefusal.{GiveRefusal}
use Rattle.driver.specs.declared.refusals.GiveRefusal.TheVariants as refusal
use Rattle.domain.specs.Views.{CpuView}
use Rattle.driver.specs.Signs.{StopView, WasGiven}

-- without memory the processor stays as it was; else the sign was found given
abbrev pub IsRefusedBy : {J A : Type 0} → StopView → CpuView J → GiveRefusal J A → CpuView J → Type 0
IsRefusedBy p c refusal.Memory c' = c' ≡ c
IsRefusedBy p c (refusal.Given told) c' = WasGiven p told
