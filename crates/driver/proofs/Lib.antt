pub mod CallerLemmas
pub mod Keeping
mod Rows
mod Ending
