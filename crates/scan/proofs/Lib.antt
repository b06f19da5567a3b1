mod OpenBetween
mod Scans
mod Loads
mod RowsOfSteps
mod Flips
mod Stepping
mod Asked
mod Carrying
mod PlaceKept
mod Driving
mod Limits
pub mod CallerLemmas
