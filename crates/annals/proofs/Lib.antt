pub mod CallerLemmas
mod Logs
mod Views
mod Sharing
mod Steps
mod Forging
mod DeedForging
