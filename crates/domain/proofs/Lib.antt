mod Acting
mod Answering
mod Counted
mod Counting
mod Covering
mod Enclosed
mod Filling
mod Founding
mod Gathering
mod Joining
mod Judging
mod Lending
mod Limited
mod Loading
mod Meeting
mod Polling
mod Preparing
pub mod Queueing
pub mod Rows
pub mod Sameness
pub mod Starting
mod Staying
mod Synchronizing
mod Turning
mod Unopened
mod Watchers
pub mod CallerLemmas
