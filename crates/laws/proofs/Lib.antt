pub mod Settling
pub mod Opposite
pub mod Keeping
pub mod Granting
pub mod Planned
pub mod Working
pub mod Claims
