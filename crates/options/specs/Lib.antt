pub mod Options
pub mod Races
pub mod Views
