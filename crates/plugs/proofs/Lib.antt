mod Looking
mod Changing
mod Texts
mod Fresh
pub mod CallerLemmas
