pub mod Call
pub mod Columns
pub mod Claims
pub mod Placed
