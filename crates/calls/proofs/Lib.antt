pub mod Within
pub mod Script
pub mod Asked
pub mod Placed
pub mod Columns
pub mod Determined
