pub mod MarkedList
pub mod Segments
