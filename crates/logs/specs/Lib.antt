pub mod Checking
pub mod Due
pub mod Claims
