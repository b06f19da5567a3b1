pub mod Blocks
pub mod Calling
pub mod Chains
pub mod Insides
pub mod Changes
pub mod Reading
