pub mod Handlers
pub mod Programs
pub mod Shown
pub mod Statuses
