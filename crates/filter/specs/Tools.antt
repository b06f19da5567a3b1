-- What the control thread writes.
use Rattle.std.specs.Prelude.{◌≡◌}
use Rattle.srcu.specs.Words.{DomainView, IsCellOf}
use Rattle.filter.specs.declared.shared.Tools.{Tools}

-- all of it is of this domain
abbrev pub AreToolsOf : DomainView → Tools → Type 0
AreToolsOf d t = (t.rules.writer.domain ≡ d.domain) × (t.chain.writer.domain ≡ d.domain) × IsCellOf d t.hears.place
