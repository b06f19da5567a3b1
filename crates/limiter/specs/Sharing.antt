-- What the threads share.
use Rattle.std.specs.Prelude.{◌≡◌}
use Rattle.srcu.specs.Words.{DomainView, AreBoxesOf}
use Rattle.limiter.specs.declared.shared.Shared.{Shared}

-- all of it is of this domain, and of one cell of it
abbrev pub AreShared : DomainView → Shared → Type 0
AreShared d s = AreBoxesOf d s.config.boxes × (s.pins.key ≡ s.config.boxes) × (s.stop.domain ≡ d)
