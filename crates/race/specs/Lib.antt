pub mod Courses
pub mod Readers
pub mod Updaters
pub mod Workers
pub mod Totals
pub mod Endings
