-- What a crate above may cite of this one; the other files of proofs/ are its own.
use Rattle.std.proofs.Common.{List, All, refl, sym, subst}
use Rattle.domain.specs.Glossary.{DomainView, CpuView, IsOf, HasNoneOpen, IsMade, Each}
use Rattle.domain.proofs.CallerLemmas.{new_ones_are_here}
use Rattle.driver.specs.Pools.{IsIdle}
-- behind a look at a list: the processor is the same
pub use Rattle.driver.proofs.Rows.{same_itself, same_taken}
-- Work in a section, and on a processor that is lent

-- a load, a find, and a job that is queued or a cookie that is asked for keep what is open
pub use Rattle.driver.proofs.Keeping.{kept_loading, kept_finding, kept_asking}
-- so does each call that makes no event, or one that neither begins nor ends a section
pub use Rattle.driver.proofs.Keeping.{kept_quiet, kept_plain}
-- and one that leaves the same sections open, as a value that is read (`same_read`, `rest_read`, `open_read` of shelf)
pub use Rattle.driver.proofs.Keeping.{kept_open}
-- so does nothing at all, and one thing behind another
pub use Rattle.driver.proofs.Keeping.{kept_itself, kept_trans}
-- behind a call of a domain a processor stays of whichever it was
pub use Rattle.driver.proofs.Keeping.{stays_here}
-- where the same readings are open, a processor of a pool may go back
pub use Rattle.driver.proofs.Keeping.{idle_kept}

module _ {J : Type 0} where
  -- the processors of a new domain are idle, so they may make a pool
  pub new_ones_are_idle : {bounds : _} (d : DomainView) (cpus : List (CpuView J)) → IsMade bounds d cpus → All (IsIdle d) cpus
  new_ones_are_idle d cpus made = λ k c lt. record { here = new_ones_are_here d cpus made k c lt; closed = subst HasNoneOpen (sym (made.each k c lt)) refl }

  -- those that a closed pool gives are of its domain, so it may be taken down with them
  pub idle_ones_are_here : (d : DomainView) (cpus : List (CpuView J)) → All (IsIdle d) cpus → Each (IsOf d) cpus
  idle_ones_are_here d cpus idle = λ k c lt. (idle k c lt).here
