pub mod Boxes
pub mod CallerLemmas
pub mod Deeds
pub mod Lending
pub mod Rounds
pub mod Sums
pub mod Terming
pub mod Walk
