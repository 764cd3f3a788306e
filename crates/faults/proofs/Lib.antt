pub mod Places
pub mod Turns
pub mod Scanned
pub mod Steps
pub mod Heads
pub mod Logged
pub mod Determined
