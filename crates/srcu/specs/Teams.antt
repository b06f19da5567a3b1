-- What a caller knows of a team.
use Rattle.std.specs.Prelude.{ℕ}
use Rattle.domain.specs.Views.{DomainView}

-- of which domain its processors and writers are, and how many of each there are
pub record TeamView : Type 0 where
  pub domain : DomainView
  pub cpus : ℕ
  pub writers : ℕ
