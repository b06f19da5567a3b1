pub use Rattle.sseq.specs.Indexes
pub use Rattle.sseq.specs.Numbers
pub mod Histories
pub mod Laws
pub mod Refusals
