pub mod Keeping
mod Lazily
mod Passing
