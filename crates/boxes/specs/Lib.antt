pub mod Boxes
pub mod Insides
pub mod Laying
pub mod Reading
pub mod Showing
pub mod Writing
