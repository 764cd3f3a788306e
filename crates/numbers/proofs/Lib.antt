pub mod Turns
pub mod Scanning
pub mod Determined
