pub mod CallerLemmas
mod Answered
mod Cuts
mod Last
mod Lists
mod Moves
