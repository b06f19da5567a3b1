-- The keys of a new vault are laid one after the other.
use Rattle.std.proofs.Common.{◌≡◌, ℕ, ◌<◌, []}
use Rattle.atomic_table.specs.Seated.{TableId}
use Rattle.sections.specs.Boxes.{vault_of}
use Rattle.sections.specs.WriterViews.{WriterView}

-- one more is laid
pub record Equipped (vault : TableId) (place : ℕ) (first w : WriterView) : Type 0 where
  pub next : w.plan.keys ≡ place
  pub of : 0 < place → vault_of w ≡ vault
  pub rest : w ≡ record first { plan = w.plan }
  pub banks : w.plan.banks ≡ first.plan.banks
