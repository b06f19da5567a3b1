-- What a worker does that gives a sign.
use Rattle.std.specs.Prelude.{◌≡◌, ◌⊎◌, Bool, true, false}
use Rattle.trail.specs.Views.{SightView}
use Rattle.domain.specs.Views.{CpuView}
use Rattle.driver.specs.Signs.{StopView, Word, Gives, SaysGiven, WasGiven}

-- true: the sign is given with a ticket of this processor. False: it was found given, or the processor stays as it was, and the sign is given
abbrev pub Tells : {J : Type 0} → StopView → CpuView J → Bool → SightView Word → CpuView J → Type 0
Tells p c true told c' = Gives p c told c'
Tells p c false told c' = WasGiven p told ⊎ ((c' ≡ c) × SaysGiven p told)
