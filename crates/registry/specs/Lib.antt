pub mod Names
pub mod Order
pub mod Registry
pub mod Using
pub mod Changing
pub mod Placing
pub mod Refusing
pub mod Waiting
