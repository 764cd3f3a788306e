pub mod Counts
pub mod Line
