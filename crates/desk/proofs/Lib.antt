pub mod CallerLemmas
mod Turns
mod Keeping
mod Trading
mod Sitting
mod Dealing
mod Emptying
mod Closing
mod Forging
pub mod Seating
mod Holders
mod Growing
mod BaySharing
mod BaySteps
mod Baying
mod BayWorking
mod BayDealing
mod BayTurns
mod BayForging
pub mod BothTied
