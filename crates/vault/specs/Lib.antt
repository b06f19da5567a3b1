pub mod Insides
pub mod Keys
pub mod Rule
pub mod Showing
