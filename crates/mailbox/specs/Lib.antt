pub mod Rule
pub mod Views
pub mod Insides
