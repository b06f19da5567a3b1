pub mod Rule
pub mod Plays
pub mod Views
pub mod Calls
pub mod Passing
pub mod Lazily
pub mod Insides
