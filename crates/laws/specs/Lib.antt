pub mod Driving
pub mod Barriers
