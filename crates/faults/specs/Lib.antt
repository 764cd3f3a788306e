pub mod Fault
pub mod Claims
