pub mod Guarding
pub mod Views
pub mod Insides
