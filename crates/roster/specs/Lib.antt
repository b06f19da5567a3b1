pub mod Ranks
pub mod Calling
pub mod Rosters
