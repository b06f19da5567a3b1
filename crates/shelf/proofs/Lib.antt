mod Putting
pub mod CallerLemmas
