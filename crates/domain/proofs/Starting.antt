-- The processors of a new domain are of it, and no reading is open there.
use Rattle.std.proofs.Common.{List, All, refl, sym, subst}
use Rattle.domain.specs.Glossary.{DomainView, CpuView, IsOf, HasNoneOpen, IsMade}
use Rattle.domain.proofs.Founding.{new_ones_are_here}

module _ {J : Type 0} where
  -- what a caller begins with
  abbrev pub IsReady : DomainView → CpuView J → Type 0
  IsReady d c = IsOf d c × HasNoneOpen c

  pub new_ones_are_ready : {bounds : _} (d : DomainView) (cpus : List (CpuView J)) → IsMade bounds d cpus → All (IsReady d) cpus
  new_ones_are_ready d cpus made = λ k c lt. (new_ones_are_here d cpus made k c lt, subst HasNoneOpen (sym (made.each k c lt)) refl)
