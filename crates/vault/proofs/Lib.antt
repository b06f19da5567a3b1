pub mod CallerLemmas
pub mod Calls
pub mod Dealing
pub mod Places
pub mod Steps
