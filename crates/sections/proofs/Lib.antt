mod Agreement
mod Asking
mod Boxes
mod Counters
mod CpuViews
mod Deeds
mod Drawing
mod Ending
mod EngineSteps
mod EngineViews
mod Entering
mod EventForging
mod Finding
mod Finds
mod Forging
mod Founding
mod Giving
mod Handling
mod Knowing
mod Laying
mod Lending
mod Meeting
mod Offered
mod Offering
mod Offers
mod OneCall
mod OneHistory
mod Pinning
mod Polling
mod Putting
mod Recalled
mod Readings
mod Reclaiming
mod Seating
mod Sharing
mod Shelving
mod Showing
mod Sighting
mod Standings
mod Staying
mod Steps
mod Sums
mod Wholes
mod Writing
pub mod Banking
pub mod CallerLemmas
pub mod Counting
pub mod Taking
