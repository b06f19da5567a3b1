-- What a crate above may cite of this one; the other files of proofs/ are its own.

-- where more sections of an index were begun later than had ended earlier, one was open in between
pub use Rattle.scan.proofs.OpenBetween.{open_between}
