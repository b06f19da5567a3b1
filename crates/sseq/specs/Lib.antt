pub mod Indexes
pub mod Numbers
