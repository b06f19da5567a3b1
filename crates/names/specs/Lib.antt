pub mod Bearers
pub mod Tokens
pub mod Parkings
pub mod Insides
pub mod OpenSections
