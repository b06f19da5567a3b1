pub mod Views
pub mod Calls
pub mod Rule
pub mod Stocks
pub mod Insides
