pub mod CallerLemmas
mod Values
mod Climbing
mod Own
mod Loads
mod Asked
mod Knowing
mod Steps
mod Sharing
mod Forging
mod Shaping
mod Asking
mod Seating
mod Calling
mod Founding
mod Alone
