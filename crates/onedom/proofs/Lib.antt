pub mod CallerLemmas
mod Pushes
mod Beginnings
mod Opens
mod Refused
mod Periods
mod Cells
mod Versions
mod Lawful
