-- What proofs of crates above may cite.
pub use Rattle.names.proofs.Held.{held_more, held_less}
pub use Rattle.names.proofs.TokenKinds.{apart_kinds}
