pub mod Cells
pub mod Reading
pub mod Replacing
pub mod Insides
