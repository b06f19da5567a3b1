pub mod Checks
pub mod Counts
pub mod Outcomes
pub mod Starts
pub mod Updaters
pub mod Workers
