mod Answering
pub mod CallerLemmas
mod Chains
mod Inserting
mod Lists
mod Marks
mod Pairs
mod Reading
mod Searching
mod Texts
