-- What a crate above may cite of this one; the other files of proofs/ are its own.

-- a cell of the processor's domain is one of the processor's
pub use Rattle.registry.proofs.Keeping.{cell_here}
