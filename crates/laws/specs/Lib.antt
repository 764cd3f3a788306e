pub mod Granting
pub mod Shown
pub mod Claims
